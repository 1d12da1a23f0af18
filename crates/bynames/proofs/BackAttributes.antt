-- Reading back: attributes of both sorts, one by one and in lists.
-- Assumes nothing.
use mathlib.Core.Path.{◌≡◌, refl, sym, ap, ◌∙◌, subst}
use mathlib.Core.Bool.{Bool, true}
use mathlib.Core.List.{List, [], ◌∷◌, ◌++◌}
use Prim.Native.Nat.{ℕ, zero, suc, ◌+◌, ◌≤◌, ◌<◌, ◌^◌}
use native.Mathlib.Nat.{le_trans}
use native.Mathlib.Omega.{arith}
use lib.Dec.{eqb}
use lib.ListN.{length}
use borrow.Author.Tests.{eq-eqb, eqb-true, leb-true}
use Rattle.rules.specs.Bytes.{bytes, inside, digit, letter, name_byte, pattern_byte, count, same, bit}
use Rattle.rules.specs.Integers.{decimal}
use Rattle.rules.specs.Tokens as T
use Rattle.rules.specs.Syntax.{Attribute, known_bits, power_of_two, negative, non_negative, non_zero, has_external_uses, sign_bits, range, RootAttribute, demanded_bits, harvested_from_use, Statement}
use Rattle.rules.specs.Printing.{number, feed, attribute, root_attribute, attributes}
use Rattle.rules.specs.Meaning.{All, Each}
use Rattle.bynames.proofs.WellFormed.{IsPattern, AttributeOk, RootAttributeOk}
use Rattle.bynames.proofs.Tokens.{found, token, token-space, or_cases}
use Rattle.bynames.proofs.Pieces.{IsInt, int-token, pattern-token, comma-token, equals-token, open_token, close_token, bracket_token, is_word, is_word_lem}
use Rattle.bynames.proofs.Reader as R
use Rattle.bynames.proofs.Reader.{Res, go, P, at, ahead, fuel_of}
use Rattle.bynames.proofs.Steps.{step, looks, demands, expects, over_feed, int-reads, field-reads, Ends, Shut, feed_sees, feed-ends}

pub app_long : (x r : List ℕ) → length r ≤ length (x ++ r)
app_long [] r = omega arith
app_long (b ∷ x) r = omega (arith, app_long x r)

-- ---- the letters of a demandedBits pattern are an integer's token
pub each-count : (p : ℕ → Bool) (w : List ℕ) → Each p w → count p w ≡ length w
each-count p [] a = refl
each-count p (b ∷ w) a = rw a.0 (ap suc (each-count p w a.1))

bit-digit : (b : ℕ) → bit b ≡ true → digit b ≡ true
unfolding digit inside
bit-digit b h = or_cases (eqb b 48) (eqb b 49) h (λ e. rw (eqb-true b 48 e)) (λ e. rw (eqb-true b 49 e))

bits-digits : (w : List ℕ) → Each bit w → Each digit w
bits-digits [] a = tt
bits-digits (b ∷ w) a = (bit-digit b a.0, bits-digits w a.1)

bit-starts : (b : ℕ) → bit b ≡ true → T.int_start b ≡ true
unfolding T.int_start digit inside
bit-starts b h = or_cases (eqb b 48) (eqb b 49) h (λ e. rw (eqb-true b 48 e)) (λ e. rw (eqb-true b 49 e))

bits-int : (p : List ℕ) → IsPattern bit p → IsInt p
bits-int p h = record { first = h.first; rest = h.rest; spelt = h.spelt; starts = bit-starts h.first h.each.0; each = bits-digits h.rest h.each.1 }

-- ---- lists of attributes of one sort
-- how an attribute is printed and read: what is printed reads back, and is not shorter than what follows
pub record Sort {A : Type 0} (print : A → List ℕ → List ℕ) (one : P A) (Ok : A → Type 0) : Type 0 where
  pub reads : (t : List Statement) (a : A) (r : List ℕ) → Ok a → one (at t (bytes " (" ++ print a (bytes ")" ++ r))) ≡ go a (at t r)
  pub long : (a : A) (r : List ℕ) → length r ≤ length (print a r)

module _ {A : Type 0} (print : A → List ℕ → List ℕ) (one : P A) (Ok : A → Type 0) (sort : Sort print one Ok) where
  opened : (a : A) (r : List ℕ) → token (bytes " (" ++ print a (bytes ")" ++ r)) ≡ found T.open_paren (bytes "(") (print a (bytes ")" ++ r))
  opened a r = token-space (bytes "(" ++ print a (bytes ")" ++ r)) ∙ open_token (print a (bytes ")" ++ r))

  pub attributes-end : (l : List A) (r : List ℕ) → Shut r → Ends (attributes print l (feed r))
  unfolding name_byte letter digit inside
  attributes-end [] r b = feed-ends r b
  attributes-end (a ∷ l) r b =
      record { stops = refl; tok = record { kind = T.open_paren; letters = bytes "(" }; sees = λ t. looks t (opened a (attributes print l (feed r))); colon = refl }

  pub attributes-long : (l : List A) (r : List ℕ) → length l + length r ≤ length (attributes print l r)
  attributes-long [] r = omega arith
  attributes-long (a ∷ l) r = omega (arith, sort.long a (bytes ")" ++ attributes print l r), attributes-long l r)

  attributes_by : (l : List A) (g : ℕ) → length l < g → (t : List Statement) (r : List ℕ) → All Ok l → Shut r
      → R.attributes one g (at t (attributes print l (feed r))) ≡ go l (at t r)
  unfolding R.attributes
  attributes_by [] zero h t r o b = absurd (let z : ⊥ = omega arith in z)
  attributes_by (a ∷ l) zero h t r o b = absurd (let z : ⊥ = omega arith in z)
  attributes_by [] (suc g) h t r o b = over_feed t r (step _ (feed_sees r b t) (rw b.paren))
  attributes_by (a ∷ l) (suc g) h t r o b =
      step _ (looks t (opened a (attributes print l (feed r))))
      (step _ (sort.reads t a (attributes print l (feed r)) o.0) (step _ (attributes_by l g (omega arith) t r o.1 b) refl))

  enough : (l : List A) (r : List ℕ) → length l ≤ ahead (token (attributes print l r))
  enough [] r = omega arith
  enough (a ∷ l) r = rw (opened a (attributes print l r)) (omega (arith, sort.long a (bytes ")" ++ attributes print l r), attributes-long l r))

  pub attributes-read : (t : List Statement) (l : List A) (r : List ℕ) → All Ok l → Shut r → R.attributes_here one (at t (attributes print l (feed r))) ≡ go l (at t r)
  attributes-read t l r o b = attributes_by l (fuel_of (at t (attributes print l (feed r)))) (omega (arith, enough l (feed r))) t r o b

-- ---- an attribute of an assignment
module _ (t : List Statement) (r : List ℕ) where
  abbrev end : List ℕ
  end = bytes ")" ++ r

  open_reads : (x : List ℕ) → R.expect T.open_paren (at t (bytes " (" ++ x)) ≡ go (bytes "(") (at t x)
  open_reads x = expects t (token-space (bytes "(" ++ x) ∙ open_token x)

  closed-reads : {A : Type 0} (a : A) → R.closed a (at t end) ≡ go a (at t r)
  closed-reads a = step _ (expects t (close_token r)) refl

  -- a word alone
  flag-reads : (w : List ℕ) (a : Attribute) → is_word w ≡ true → R.attribute_of w ≡ R.closed a → R.attribute (at t (bytes " (" ++ (w ++ end))) ≡ go a (at t r)
  unfolding R.attribute name_byte letter digit inside
  flag-reads w a h e =
      step _ (open_reads (w ++ end)) (step _ (demands t (is_word_lem w end h refl)) (ap (λ (p : P Attribute). p (at t end)) e ∙ closed-reads a))

  known-reads : (p : List ℕ) → IsPattern pattern_byte p → R.attribute (at t (bytes " (" ++ attribute (known_bits p) end)) ≡ go (known_bits p) (at t r)
  unfolding R.attribute pattern_byte
  known-reads p h =
      step _ (open_reads (bytes "knownBits=" ++ (p ++ end))) (step _ (demands t (pattern-token p end h refl)) (closed-reads (known_bits p)))

  equals-reads : {A : Type 0} (p : P A) (x : List ℕ) {z : Res A} → p (at t x) ≡ z → R.after_equals p (at t (bytes "=" ++ x)) ≡ z
  equals-reads p x h = step _ (expects t (equals-token x)) h

  word-reads : (w : List ℕ) (p : P Attribute) (x : List ℕ) {z : Res Attribute} → is_word w ≡ true → R.attribute_of w ≡ R.after_equals p → p (at t x) ≡ z
      → R.attribute (at t (bytes " (" ++ (w ++ (bytes "=" ++ x)))) ≡ z
  unfolding R.attribute name_byte letter digit inside
  word-reads w p x h e k =
      step _ (open_reads (w ++ (bytes "=" ++ x)))
      (step _ (demands t (is_word_lem w (bytes "=" ++ x) h refl)) (ap (λ (q : P Attribute). q (at t (bytes "=" ++ x))) e ∙ equals-reads p x k))

  counted-reads : (n : ℕ) → n < 2 ^ 8 → R.counted (at t (number n end)) ≡ go (sign_bits n) (at t r)
  unfolding R.counted digit inside
  counted-reads n h = step _ (field-reads 8 t n end refl h (le_trans h (leb-true (2 ^ 8) (2 ^ 128) refl)) refl) (closed-reads (sign_bits n))

  bounds-read : (a b : ℕ) → a < 2 ^ 128 → b < 2 ^ 128 → R.bounds (at t (bytes "[" ++ number a (bytes "," ++ number b (bytes ")" ++ end)))) ≡ go (range a b) (at t r)
  unfolding R.bounds digit inside
  bounds-read a b h k =
      step _ (expects t (bracket_token (number a (bytes "," ++ number b (bytes ")" ++ end)))))
      (step _ (int-reads t a (bytes "," ++ number b (bytes ")" ++ end)) h refl)
      (step _ (expects t (comma-token (number b (bytes ")" ++ end))))
      (step _ (int-reads t b (bytes ")" ++ end) k refl)
      (step _ (expects t (close_token end)) (closed-reads (range a b))))))

  pub attribute-reads : (a : Attribute) → AttributeOk a → R.attribute (at t (bytes " (" ++ attribute a end)) ≡ go a (at t r)
  unfolding R.attribute_of is_word letter name_byte digit inside same
  attribute-reads (known_bits p) o = known-reads p o
  attribute-reads power_of_two o = flag-reads (bytes "powerOfTwo") power_of_two refl refl
  attribute-reads negative o = flag-reads (bytes "negative") negative refl refl
  attribute-reads non_negative o = flag-reads (bytes "nonNegative") non_negative refl refl
  attribute-reads non_zero o = flag-reads (bytes "nonZero") non_zero refl refl
  attribute-reads has_external_uses o = flag-reads (bytes "hasExternalUses") has_external_uses refl refl
  attribute-reads (sign_bits n) o = word-reads (bytes "signBits") R.counted (number n end) refl refl (counted-reads n o)
  attribute-reads (range a b) o = word-reads (bytes "range") R.bounds (bytes "[" ++ number a (bytes "," ++ number b (bytes ")" ++ end))) refl refl (bounds-read a b o.0 o.1)

  -- ---- a root attribute
  harvested_reads : R.root_attribute (at t (bytes " (" ++ root_attribute harvested_from_use end)) ≡ go harvested_from_use (at t r)
  unfolding R.root_attribute is_word letter name_byte digit inside same
  harvested_reads =
      step _ (open_reads (bytes "harvestedFromUse" ++ end)) (step _ (expects t (is_word_lem (bytes "harvestedFromUse") end refl refl)) (closed-reads harvested_from_use))

  demanded_pattern_lem : (p : List ℕ) → IsPattern bit p → R.demanded_pattern (at t (p ++ end)) ≡ go (demanded_bits p) (at t r)
  unfolding R.demanded_pattern digit inside
  demanded_pattern_lem p h =
      step _ (expects t (int-token p end (bits-int p h) refl))
      (rw (each-count bit p (subst (Each bit) (sym h.spelt) h.each), eq-eqb (length p) (length p) refl) (closed-reads (demanded_bits p)))

  demanded_reads : (p : List ℕ) → IsPattern bit p → R.root_attribute (at t (bytes " (" ++ root_attribute (demanded_bits p) end)) ≡ go (demanded_bits p) (at t r)
  unfolding R.root_attribute is_word letter name_byte digit inside same
  demanded_reads p h =
      step _ (open_reads (bytes "demandedBits=" ++ (p ++ end)))
      (step _ (expects t (is_word_lem (bytes "demandedBits") (bytes "=" ++ (p ++ end)) refl refl)) (equals-reads R.demanded_pattern (p ++ end) (demanded_pattern_lem p h)))

  pub root_attribute_reads : (a : RootAttribute) → RootAttributeOk a → R.root_attribute (at t (bytes " (" ++ root_attribute a end)) ≡ go a (at t r)
  root_attribute_reads (demanded_bits p) o = demanded_reads p o
  root_attribute_reads harvested_from_use o = harvested_reads

attribute-long : (a : Attribute) (r : List ℕ) → length r ≤ length (attribute a r)
attribute-long (known_bits p) r = omega (arith, app_long p r)
attribute-long power_of_two r = omega arith
attribute-long negative r = omega arith
attribute-long non_negative r = omega arith
attribute-long non_zero r = omega arith
attribute-long has_external_uses r = omega arith
attribute-long (sign_bits n) r = omega (arith, app_long (decimal n) r)
attribute-long (range a b) r = omega (arith, app_long (decimal a) (bytes "," ++ number b (bytes ")" ++ r)), app_long (decimal b) (bytes ")" ++ r))

root_attribute_long : (a : RootAttribute) (r : List ℕ) → length r ≤ length (root_attribute a r)
root_attribute_long (demanded_bits p) r = omega (arith, app_long p r)
root_attribute_long harvested_from_use r = omega arith

pub own_sort : Sort attribute R.attribute AttributeOk
own_sort = record { reads = λ t a r. attribute-reads t r a; long = attribute-long }

pub root_sort : Sort root_attribute R.root_attribute RootAttributeOk
root_sort = record { reads = λ t a r. root_attribute_reads t r a; long = root_attribute_long }
