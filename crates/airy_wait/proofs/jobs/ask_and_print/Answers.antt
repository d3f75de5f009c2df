use Rattle.std.proofs.Common.{◌≡◌, length, map, string_bytes, ◌∙◌}
use Rattle.run_reports.proofs.Names.{plan_of}
use Rattle.std.proofs.lemmas.List.{length-map}
use Rattle.ask_seats.specs.Talks.{told_of}
use Rattle.airy_wait.specs.Asked.{keys_asked}
use Rattle.airy_wait.specs.Turns.{plan_replies}
use Rattle.airy_wait.proofs.KeyLemmas.{asked_many}
use Rattle.airy_wait.proofs.jobs.ask_and_print.Goals as goal

pub print_replies-requires : goal.print_replies-requires
print_replies-requires g c =
    let asks = c.args.job.asks.now in let p = plan_of c.args.board.now in let keys = keys_asked c.args.job in
    let many : length (plan_replies p keys) ≡ length asks =
    length-map keys (told_of p) ∙ asked_many (map string_bytes asks) c.requires.job.keys ∙ length-map asks string_bytes in
    (plan_replies p keys, c.fill_and_ask.ensures.told, many)

pub returns : goal.returns
returns g c =
    let asks = c.args.job.asks.now in let p = plan_of c.args.board.now in let keys = keys_asked c.args.job in
    let many : length (plan_replies p keys) ≡ length asks =
    length-map keys (told_of p) ∙ asked_many (map string_bytes asks) c.requires.job.keys ∙ length-map asks string_bytes in
    c.print_replies.ensures (plan_replies p keys) c.fill_and_ask.ensures.told many
