-- Texts and their tokens, computed: what changes them, and what does not.
-- Assumes nothing.
use mathlib.Core.Path.{◌≡◌, refl}
use mathlib.Core.List.{List, [], ◌∷◌, map}
use Prim.Native.Nat.{ℕ}
use Rattle.rules.specs.Bytes as B
use Rattle.rules.specs.Bytes.{bytes, same}
use Rattle.rules.specs.Utf8 as U
use Rattle.rules.specs.Space as S
use Rattle.rules.specs.Tokens as T
use Rattle.rules.specs.Tokens.{next}
use Rattle.spacing.specs.TokenList.{Word, token, end, fault, word_of, words_from, tokens_of}

abbrev texts : List (List ℕ)
texts =
    bytes "%0:i8=var cand %0 1" ∷
    -- white space and comments between tokens, before the first and behind the last
    bytes "; a rule\n%0 : i8 = var\n\tcand %0 1 ; so\n\n" ∷
    -- letters apart are other tokens than letters together
    bytes "%0:i 8=var" ∷
    -- what is no token ends the list, whatever stands behind it
    bytes "cand %0 # 1" ∷
    bytes " cand\n%0 !" ∷
    []

abbrev rule : List Word
rule =
    token T.val_name (bytes "%0") ∷ token T.colon (bytes ":") ∷ token T.ident (bytes "i8") ∷ token T.equals (bytes "=") ∷ token T.ident (bytes "var") ∷
    token T.ident (bytes "cand") ∷ token T.val_name (bytes "%0") ∷ token T.int (bytes "1") ∷ end ∷ []

abbrev apart : List Word
apart =
    token T.val_name (bytes "%0") ∷ token T.colon (bytes ":") ∷ token T.ident (bytes "i") ∷ token T.int (bytes "8") ∷ token T.equals (bytes "=") ∷
    token T.ident (bytes "var") ∷ end ∷ []

abbrev broken : List Word
broken = token T.ident (bytes "cand") ∷ token T.val_name (bytes "%0") ∷ fault ∷ []

pub examples : map tokens_of texts ≡ rule ∷ rule ∷ apart ∷ broken ∷ broken ∷ []
unfolding same B.inside B.digit B.letter B.name_byte B.pattern_byte B.line_byte U.seq_len U.code_point S.white S.space_len S.comment_len S.skip_len T.single T.int_start T.pattern T.word T.start T.token_at word_of next words_from
examples = refl
