use Rattle.std.proofs.Common.{arith, ◌≡◌, ◌++◌, take, length, length-append, length-take-le}
use Rattle.tensor_text.proofs.reading.read_bytes.Goals as goal
use Rattle.std.proofs.KnownBytes.{Consumes-trans}

pub returns-then-is_err-clause-read : goal.returns-then-is_err-clause-read
returns-then-is_err-clause-read g c =
    let read = take c.in-Ok.count c.read.new.into in
    let room : length (take c.min-wanted.result c.loop-room.room) ≡ c.min-wanted.result = length-take-le c.min-wanted.result c.loop-room.room (omega arith) in
    record {
      text = c.loop-room.text.items ++ read;
      consumed = Consumes-trans (g.S.Source.state c.args.src.now).left (g.S.Source.state c.loop-room.src).left (g.S.Source.state c.read.new.self).left c.loop-room.text.items read c.loop-room.invariant.consumed c.in-Ok.ensures.bytes.0;
      most = omega (arith, length-append c.loop-room.text.items read, c.loop-room.text.ok.0, c.in-Ok.ensures.bound);
      tells = tt;
    }
