use Rattle.std.proofs.Common.{◌≡◌, ◌+◌, ◌<◌, List, [], ◌∷◌, ◌++◌, rules, arith, map, string_bytes, length, get_or, refl, sym, ap, ◌∙◌, subst, Some, slice_get, option_map}
use Rattle.run_reports.proofs.Names.{plan_of}
use Rattle.std.proofs.lemmas.Option.{slice_get-map, slice_get_read}
use Rattle.ask_seats.specs.Replies.{Reply}
use Rattle.airy_wait.specs.Asked.{keys_asked}
use Rattle.airy_wait.specs.Turns.{plan_replies, told_to}
use Rattle.airy_wait.specs.Waits.{told_reply}
use Rattle.airy_wait.specs.Words.{key_of_word}
use Rattle.airy_wait.proofs.SeatLemmas.{map_snoc}
use Rattle.airy_wait.proofs.TurnLemmas.{IsGoing, a_key, goes, told_there}
use Rattle.airy_wait.proofs.callers.ask_in_turn.Goals as goal

pub unreachable-requires : goal.unreachable-requires
unreachable-requires g c =
    let asks = c.args.job.asks.now in let at = c.loop-at.at in let s = c.index-job-at.result in let w = c.as_str.result.now in
    let low : at < length asks = omega (arith, c.loop-at-test.true) in
    let is : s ≡ get_or asks at s = search rules in
    let there : slice_get (map string_bytes asks) at ≡ Some w =
    slice_get-map string_bytes asks at ∙ ap (option_map string_bytes) (slice_get_read asks (length asks) at s refl low is)
    ∙ ap Some (ap string_bytes is ∙ sym c.as_str.ensures.value) in
    let k = a_key (map string_bytes asks) at w c.requires.job.keys there in
    c.in_default.not-Some k.0 (c.read_ask.ensures ∙ k.1)

pub loop-at-preserved : goal.loop-at-preserved
loop-at-preserved g c =
    let asks = c.args.job.asks.now in let at = c.loop-at.at in let s = c.index-job-at.result in let w = c.as_str.result.now in
    let step = c.args.job.callers in let p = plan_of c.args.board.now in let all = plan_replies p (keys_asked c.args.job) in
    let own = told_to c.loop-at.caller in let told = c.ask_wait-told.result in
    let low : at < length asks = omega (arith, c.loop-at-test.true) in
    let is : s ≡ get_or asks at s = search rules in
    let there : slice_get (map string_bytes asks) at ≡ Some w =
    slice_get-map string_bytes asks at ∙ ap (option_map string_bytes) (slice_get_read asks (length asks) at s refl low is)
    ∙ ap Some (ap string_bytes is ∙ sym c.as_str.ensures.value) in
    let reads : key_of_word w ≡ Some c.in-Some.key = sym c.read_ask.ensures ∙ c.in-Some.is in
    let next = told_there p (map string_bytes asks) at w c.in-Some.key (told_reply told) c.requires.job.keys there reads c.ask_wait-told.ensures.tells in
    let more : map told_reply c.push.new.self.items ≡ own ++ told_reply told ∷ [] =
    ap (map told_reply) c.in-Ok.ensures.items ∙ map_snoc told_reply c.loop-at.caller.told.items told in record {
      seat = c.ask_wait-told.ensures.seat;
      going = subst (λ (l : List Reply). IsGoing step c.args.place all l (at + step)) (sym more) (goes step c.args.place all own at (told_reply told) c.loop-at.invariant.going next);
      room = omega (arith, c.loop-at.invariant.room, c.in-Ok.ensures.capacity);
      low = omega (arith, low, c.requires.job.most_asks, c.requires.job.most_callers);
    }
