-- What a session replies to an ask or a `grow`, and the lines of its replies.
use Rattle.std.specs.Prelude.{ℕ, List, [], ◌∷◌, ◌++◌, codes, decimal}
use Rattle.airy_math.specs.Rational.{ℚ}
use Rattle.airy_math.specs.Keys.{Key}
use Rattle.airy_index.specs.Text.{key_text}
use Rattle.amp_terms.specs.Text.{value_text}
use Rattle.ask_seats.specs.declared.answer.Answer.{Answer}
use Rattle.ask_seats.specs.declared.answer.Answer.TheVariants as answer

-- A reply to an ask for a key, or to a `grow`.
pub data Reply : Type 0 where
  -- the Value of a planned key, with the power of the letter
  Value : ℚ → ℕ → Reply
  -- the sum of a planned key leaves the range
  Over : Reply
  -- a planned key rests on this one, which has no Value
  Blocked : Key → Reply
  -- a planned key has no outcome yet
  NotYet : Reply
  -- the shape does not cover the key
  Zero : Reply
  -- the Euler number is above the bound
  Beyond : Reply
  -- an index is not below dim
  BadIndex : Reply
  -- the bound was raised to this one
  GrownTo : ℕ → Reply
  -- it was not: there are too many planned keys, the first of these too many with this Euler number
  ManyCells : ℕ → Reply
  -- it was not: the planned keys have too many needs, from this key on
  ManyNeeds : Key → Reply

unfoldable pub reply_text : Reply → List ℕ
reply_text (Value v e) = value_text v e
reply_text Over = codes "over"
reply_text (Blocked key) = codes "rests on " ++ key_text key
reply_text NotYet = codes "not yet"
reply_text Zero = codes "zero"
reply_text Beyond = codes "beyond"
reply_text BadIndex = codes "no such index"
reply_text (GrownTo X) = codes "grown to " ++ decimal X
reply_text (ManyCells e) = codes "not grown: cells at level " ++ decimal e
reply_text (ManyNeeds key) = codes "not grown: needs at " ++ key_text key

unfoldable pub line_text : Reply → List ℕ
line_text reply = reply_text reply ++ codes "\n"

-- the lines of the replies, one after another
unfoldable pub lines_text : List Reply → List ℕ
lines_text [] = []
lines_text (reply ∷ replies) = line_text reply ++ lines_text replies

-- the reply that an answer is
unfoldable pub reply_of : Answer → Reply
reply_of (answer.Value v e) = Value v e
reply_of answer.Zero = Zero
reply_of answer.Over = Over
reply_of (answer.Blocked key) = Blocked key
reply_of (answer.NotYet word) = NotYet
reply_of answer.Beyond = Beyond
reply_of answer.BadIndex = BadIndex
