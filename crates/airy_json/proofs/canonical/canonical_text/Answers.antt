use Rattle.std.proofs.Common.{rules, ◌≡◌, string_bytes}
use Rattle.airy_json.proofs.Common.{canonical_text}
use Rattle.airy_json.proofs.KindLaw.{kind-canonical}
use Rattle.airy_json.proofs.canonical.canonical_text.Goals as goal

pub returns-clause-kind : goal.returns-clause-kind
returns-clause-kind c =
    let is : string_bytes c.in-Ok.text ≡ canonical_text c.args.t.now = search rules in
    kind-canonical c.args.t.now (string_bytes c.in-Ok.text) is c.write_tensors.ensures.back
