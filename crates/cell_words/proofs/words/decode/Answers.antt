use Rattle.std.proofs.Common.{rules, ◌≡◌, ◌≢◌, ◌+◌, ◌*◌, ◌^◌, ◌<◌, ℕ, sym, ap, ap₂, ◌∙◌, ℤ, pos, unsigned_abs, to_z, of_z}
use mir.Syntax.{w128}
use Rattle.airy_math.specs.Rational.{◌/ℚ◌}
use Rattle.std.specs.Int.{cast_unsigned, cast_signed}
use Rattle.std.proofs.lemmas.Int.{to_z-of_z}
use Rattle.cell_words.proofs.Names.{Outcome, word_of, IsSized}
use Rattle.cell_words.specs.Words.{first_number, second_number, AreWordsOfOne}
use Rattle.cell_words.proofs.WordLemmas.{number_back, first_fits, second_fits, value_back, value_lowest, AreLowest}
use Rattle.cell_words.proofs.words.decode.Goals as goal

second_is : (z : ℤ) (c d : ℕ) (o : Outcome) → IsSized o → lib.Signed.mag z < 2 ^ 127 → cast_unsigned w128 z ≡ d * 2 ^ 64 + c → c ≡ word_of o 2 → d ≡ word_of o 3 → z ≡ second_number o
unfolding word_of
second_is z c d o s f e g h = number_back z (second_number o) c d (record { sfits = f }) (second_fits o s) e g h

first_is : (z : ℤ) (a b : ℕ) (o : Outcome) → IsSized o → lib.Signed.mag z < 2 ^ 127 → cast_unsigned w128 z ≡ b * 2 ^ 64 + a → a ≡ word_of o 0 → b ≡ word_of o 1 → z ≡ first_number o
unfolding word_of
first_is z a b o s f e g h = number_back z (first_number o) a b (record { sfits = f }) (first_fits o s) e g h

pub returns-then-second-eq0 : goal.returns-then-second-eq0
returns-then-second-eq0 c = λ o s e f g h.
    let second = second_is c.number-second.result c.args.c c.args.d o s c.number-second.type_inv c.number-second.ensures g h in
    let zero_now : c.number-second.result ≡ pos 0 = sym (to_z-of_z w128 c.number-second.result (record { sfits = c.number-second.type_inv })) ∙ ap (cast_signed w128) c.if-second-eq0.true in c.without_second.ensures o s e (sym second ∙ zero_now)

-- the numbers of the Value that the words are of
numbers_lowest : (a b c d : ℕ) → AreWordsOfOne a b c d → (n m : ℤ) → lib.Signed.mag n < 2 ^ 127 → lib.Signed.mag m < 2 ^ 127 → cast_unsigned w128 n ≡ b * 2 ^ 64 + a → cast_unsigned w128 m ≡ d * 2 ^ 64 + c → m ≢ pos 0 → AreLowest n m
numbers_lowest a b c d r n m fn fm en em some =
    value_lowest r.outcome n m r.sized (first_is n a b r.outcome r.sized fn en r.first r.second) (second_is m c d r.outcome r.sized fm em r.third r.fourth) some

pub of_lowest-requires : goal.of_lowest-requires
of_lowest-requires c =
    let k = numbers_lowest c.args.a c.args.b c.args.c c.args.d c.requires c.number.result c.number-second.result c.number.type_inv c.number-second.type_inv c.number.ensures c.number-second.ensures (λ z. c.if-second-eq0.false (ap (cast_unsigned w128) z)) in
    let n : to_z w128 (of_z w128 c.number.result) ≡ c.number.result = search rules in
    let m : c.unsigned_abs.result ≡ unsigned_abs c.number-second.result = search rules in
    record { lowest = rw (n, m) k.lowest; positive = rw m k.positive; num_fits = rw n k.num_fits; den_fits = rw m k.den_fits }

pub returns : goal.returns
returns c = λ o s e f g h.
    let second = second_is c.number-second.result c.args.c c.args.d o s c.number-second.type_inv c.number-second.ensures g h in
    let first = first_is c.number.result c.args.a c.args.b o s c.number.type_inv c.number.ensures e f in
    let n : to_z w128 (of_z w128 c.number.result) ≡ c.number.result = search rules in
    let m : c.unsigned_abs.result ≡ unsigned_abs c.number-second.result = search rules in
    value_back o c.number.result c.number-second.result c.of_lowest.result first second (λ z. c.if-second-eq0.false (ap (cast_unsigned w128) z)) (c.of_lowest.ensures ∙ ap₂ ◌/ℚ◌ n m)
