-- Which part of a text is a statement's name, and that it lies in the text.
-- Assumes nothing.
use Prim.Native.Nat.{ℕ, ◌-◌, ◌≤◌, ◌<◌}
use mathlib.Core.Path.{◌≡◌, refl, sym, ◌∙◌, subst}
use mathlib.Core.Bool.{Bool, true, false, ◌&&◌}
use mathlib.Core.List.{List}
use native.Mathlib.Omega.{arith}
use lib.Dec.{leb, ltb}
use lib.ListN.{length, drop, length-take}
use borrow.Author.Tests.{leb-true, ltb-true, lt-ltb, le-ltb}
use Rattle.rules.specs.declared.Span.{Span}
use Rattle.rules.specs.declared.Statement.{Statement}
use Rattle.rules.specs.Bytes.{inside}
use Rattle.rules.specs.Rows.{◌up_to◌, item_at, statement_at, letters_of}
use Rattle.rules.specs.Prints.{is_named, name_part}
use Rattle.rules.specs.WellFormed.{Counts, well_formed, is_assignment, is_name, name_in, new_name, no_span, name_ok, statement_ok}
use Rattle.laws.proofs.Cases.{by_cases}
use Rattle.laws.proofs.Tests.{and_left, and_right, and_true, and_false, cond-true, cond-false}
use Rattle.byrows.proofs.Formed.{owner_of, item_row_lem}

no_right : (a b : Bool) → b ≡ false → (a && b) ≡ false
no_right true b e = e
no_right false b e = refl

-- a span of bytes of a text
pub record Lies (text : List ℕ) (s : Span) : Type 0 where
  pub forth : s.first ≤ s.past
  pub inside : s.past ≤ length text

-- no byte is one
no_bytes : (text : List ℕ) → Lies text (0 up_to 0)
no_bytes text = record { forth = omega arith; inside = omega arith }

-- a name is
named-lies : (text : List ℕ) (s : Span) → name_in text s ≡ true → Lies text s
unfolding name_in is_name
named-lies text s e =
    let two : 2 ≤ length (letters_of text s) = leb-true 2 (length (letters_of text s)) (and_left (leb 2 (length (letters_of text s))) _ (and_right (leb s.past (length text)) (is_name (letters_of text s)) e)) in
    let up = length-take (s.past - s.first) (drop s.first text) in
    record { forth = omega arith; inside = leb-true s.past (length text) (and_left (leb s.past (length text)) (is_name (letters_of text s)) e) }

-- and so is the name of an assignment that is as it must be
assigned_lies : (text S O A : List ℕ) (first i : ℕ) (r : Statement) → statement_ok text S O A first i r ≡ true → is_assignment r.code ≡ true → Lies text r.name
unfolding statement_ok name_ok
assigned_lies text S O A first i r e a =
    let name : name_ok text S first i r ≡ true = and_left (name_ok text S first i r) _ (and_right (inside _ _ r.code) _ e) in
    let known : (name_in text r.name && new_name text S first i) ≡ true = sym (cond-true (is_assignment r.code) (name_in text r.name && new_name text S first i) (no_span r.name) a) ∙ name in
    named-lies text r.name (and_left (name_in text r.name) (new_name text S first i) known)

module _ (text I S O A : List ℕ) (c : Counts) (row : ℕ) where
  abbrev assigns : Bool
  assigns = ltb row c.statements && is_assignment (statement_at S row).code

  -- ---- why a row has no name, and which it has otherwise
  none : is_named text I S O A c row ≡ false → (0 up_to 0) ≡ name_part text I S O A c row
  unfolding name_part
  none e = sym (cond-false (is_named text I S O A c row) (statement_at S row).name (0 up_to 0) e)

  pub ill_formed : well_formed text I S O A c ≡ false → (0 up_to 0) ≡ name_part text I S O A c row
  unfolding is_named
  ill_formed e = none (and_false (well_formed text I S O A c) assigns e)

  pub uncounted : c.statements ≤ row → (0 up_to 0) ≡ name_part text I S O A c row
  unfolding is_named
  uncounted h =
      none (no_right (well_formed text I S O A c) assigns (and_false (ltb row c.statements) (is_assignment (statement_at S row).code) (le-ltb row c.statements h)))

  pub unassigned : is_assignment (statement_at S row).code ≡ false → (0 up_to 0) ≡ name_part text I S O A c row
  unfolding is_named
  unassigned e =
      none (no_right (well_formed text I S O A c) assigns (no_right (ltb row c.statements) (is_assignment (statement_at S row).code) e))

  pub assigned : well_formed text I S O A c ≡ true → row < c.statements → is_assignment (statement_at S row).code ≡ true → (statement_at S row).name ≡ name_part text I S O A c row
  unfolding is_named name_part
  assigned ok h a =
      sym (cond-true (is_named text I S O A c row) (statement_at S row).name (0 up_to 0) (and_true (well_formed text I S O A c) assigns ok ∙ and_true (ltb row c.statements) (is_assignment (statement_at S row).code) (lt-ltb row c.statements h) ∙ a))

  -- ---- a row's name lies in the text
  named_row : is_named text I S O A c row ≡ true → Lies text (statement_at S row).name
  unfolding is_named
  named_row e =
      let ok = and_left (well_formed text I S O A c) assigns e in
      let known = and_right (well_formed text I S O A c) assigns e in
      let counted = ltb-true row c.statements (and_left (ltb row c.statements) (is_assignment (statement_at S row).code) known) in
      let w = owner_of text I S O A c ok row counted in
      assigned_lies text S O A (item_at I w.k).statements.first row (statement_at S row)
      (item_row_lem text I S O A c ok w.k (omega (arith, w.to)) row w.low w.high)
      (and_right (ltb row c.statements) (is_assignment (statement_at S row).code) known)

  pub part_lies : {s : Span} → s ≡ name_part text I S O A c row → Lies text s
  unfolding name_part
  part_lies e =
      subst (Lies text) (sym e)
      (by_cases (is_named text I S O A c row)
      (λ t. subst (Lies text) (sym (cond-true (is_named text I S O A c row) (statement_at S row).name (0 up_to 0) t)) (named_row t))
      (λ t. subst (Lies text) (sym (cond-false (is_named text I S O A c row) (statement_at S row).name (0 up_to 0) t)) (no_bytes text)))
