-- What a shape covers depends on three numbers of the key.
use Rattle.std.proofs.Common.{◌≡◌, length, refl}
use Rattle.airy_math.specs.Keys.{Key, total}
use Rattle.airy_math.specs.Shapes.{covers}
use Rattle.airy_math.specs.declared.Shape.{Shape}
use Rattle.airy_math.specs.declared.Shape.TheVariants.{All, Exact, AtMost}
use Rattle.airy_index.specs.Covering.{covers_sum}

pub covers_by_sum : (s : Shape) (key : Key) → covers s key ≡ covers_sum s key.g (length key.idx) (total key.idx)
unfolding covers covers_sum
covers_by_sum All key = refl
covers_by_sum (Exact l) key = refl
covers_by_sum (AtMost l) key = refl
