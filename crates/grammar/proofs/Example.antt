-- A sentence, derived by hand: each token where it stands, and each rule of the grammar by which they are an item.
-- Assumes nothing.
use mathlib.Core.Path.{◌≡◌, refl}
use mathlib.Core.List.{List, [], ◌∷◌}
use Prim.Native.Nat.{ℕ}
use borrow.Author.Tests.{leb-true}
use Rattle.rules.specs.declared.Entry.TheVariants.{Replacements}
use Rattle.rules.specs.declared.Lexed.TheVariants.{Found}
use Rattle.rules.specs.Bytes as B
use Rattle.rules.specs.Bytes.{bytes, part, same}
use Rattle.rules.specs.Utf8 as U
use Rattle.rules.specs.Space as S
use Rattle.rules.specs.Tokens as T
use Rattle.rules.specs.Tokens.{token_at}
use Rattle.rules.specs.Integers as I
use Rattle.rules.specs.Integers.{opposite}
use Rattle.rules.specs.Syntax as syntax
use Rattle.rules.specs.Grammar.{Token, valname, int, colon, equals, open_paren, close_paren, word, Written, Lexes, at_end, at_token, no_type, a_type, a_value, a_constant, non_zero, no_attributes, one_attribute, a_var, an_assignment, no_statements, one_statement, a_cand, a_candidate, Items, no_items, one_item, Sentence}

abbrev text : List ℕ
text = bytes "%0:i8=var (nonZero)\ncand %0 -07 ; so"

abbrev tokens : List Token
tokens =
    valname (bytes "%0") ∷ colon ∷ word "i8" ∷ equals ∷ word "var" ∷ open_paren ∷ word "nonZero" ∷ close_paren ∷
    word "cand" ∷ valname (bytes "%0") ∷ int (bytes "-07") ∷ []

abbrev items : List syntax.Item
items =
    record {
      before = syntax.assignment (record { name = bytes "%0"; typing = syntax.typed 8; side = syntax.var; attributes = syntax.non_zero ∷ [] }) ∷ [];
      between = [];
      closing = syntax.cand (syntax.value (bytes "%0")) (syntax.constant (opposite 7) syntax.untyped) [];
    } ∷ []

-- a token of a kind stands from a place up to another
stands : {at : ℕ} {x : Token} {l : List Token} (kind first past : ℕ) → token_at text at ≡ Found (record { kind = kind; first = first; past = past }) → Written x kind (part text first past) → Lexes text past l → Lexes text at (x ∷ l)
stands kind first past e w l = at_token e w l

lexes : Lexes text 0 tokens
unfolding same B.inside B.digit B.letter B.name_byte B.line_byte U.seq_len U.code_point S.white S.space_len S.comment_len S.skip_len T.single T.int_start T.word T.start T.token_at
lexes =
    stands T.val_name 0 2 refl (record { of = refl; by = refl })
    (stands T.colon 2 3 refl (record { of = refl; by = tt })
    (stands T.ident 3 5 refl (record { of = refl; by = refl })
    (stands T.equals 5 6 refl (record { of = refl; by = tt })
    (stands T.ident 6 9 refl (record { of = refl; by = refl })
    (stands T.open_paren 10 11 refl (record { of = refl; by = tt })
    (stands T.ident 11 18 refl (record { of = refl; by = refl })
    (stands T.close_paren 18 19 refl (record { of = refl; by = tt })
    (stands T.ident 20 24 refl (record { of = refl; by = refl })
    (stands T.val_name 25 27 refl (record { of = refl; by = refl })
    (stands T.int 28 31 refl (record { of = refl; by = refl }) (at_end refl)))))))))))

derived : Items Replacements tokens items
unfolding same I.integer I.type_width B.digit B.inside
derived =
    one_item
    (a_candidate
    (one_statement (an_assignment refl (a_type refl) a_var (one_attribute non_zero no_attributes)) no_statements)
    (a_cand (a_value refl) (a_constant refl no_type) no_attributes)) no_items

pub sentence : Sentence Replacements text items
unfolding U.seq_len B.inside
sentence = record { short = leb-true _ _ refl; well_formed = refl; derives = record { tokens = tokens; lexes = lexes; items = derived } }
