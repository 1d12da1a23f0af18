-- The tokens of a text as a list, by their kinds and letters alone: no place, no white space, no comment.
-- Assumes nothing.
use Rattle.std.specs.Prelude.{ℕ, zero, suc, List, [], ◌∷◌, length}
use Rattle.rules.specs.declared.Lexed.{Lexed}
use Rattle.rules.specs.declared.Lexed.TheVariants.{Found, End, Refused}
use Rattle.rules.specs.Bytes.{part}
use Rattle.rules.specs.Tokens.{token_at, next}

-- what a token is whatever stands around it: its kind and its letters; or the end of the text, or what is no token
pub data Word : Type 0 where
  token : ℕ → List ℕ → Word
  end : Word
  fault : Word

unfoldable pub word_of : List ℕ → Lexed → Word
word_of text (Found t) = token t.kind (part text t.first t.past)
word_of text End = end
word_of text (Refused p) = fault

-- the words from one on, at most so many: the last is the end of the text, or what is no token
unfoldable pub words_from : ℕ → List ℕ → Lexed → List Word
words_from zero text l = []
words_from (suc n) text (Found t) = word_of text (Found t) ∷ words_from n text (next text (Found t))
words_from (suc n) text End = word_of text End ∷ []
words_from (suc n) text (Refused p) = word_of text (Refused p) ∷ []

-- the tokens of a text: each has a byte or more, so one word more than the text has bytes is enough
abbrev pub tokens_of : List ℕ → List Word
tokens_of text = words_from (suc (length text)) text (token_at text 0)
