-- What a contract sees of a split.
use Rattle.airy_math.specs.Splits.{Split as SplitValue}
use Rattle.airy_index.specs.declared.splits.Split.{Split}

-- the two lists and the number of ways
abbrev pub split_value : Split → SplitValue
split_value s = record { part = s.part.items; rest = s.rest.items; ways = s.weight }
