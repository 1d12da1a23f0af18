-- One step of a walk, in the work area.
-- Assumes nothing.
use mathlib.Core.Path.{◌≡◌, refl, sym, ap, ◌∙◌, subst}
use mathlib.Core.Logic.{⊎_elim}
use mathlib.Core.Bool.{Bool, true, false, cond}
use mathlib.Core.List.{List, [], ◌∷◌}
use Prim.Native.Nat.{ℕ, zero, suc, ◌+◌, ◌-◌, ◌*◌, ◌/◌, ◌%◌, ◌≤◌, ◌<◌}
use native.Mathlib.Nat.{not-suc-le-zero, le_of_suc-le-suc, eq-or-lt_of_le, add-zero}
use native.Mathlib.Numerals.{add-one}
use native.Mathlib.Decide.{dec_lt}
use native.Mathlib.Omega.{arith}
use lib.Dec.{eqb, ltb}
use lib.ListN.{length, get_or, set, length-set}
use lib.Seq.{get_or-set_same}
use borrow.Author.Tests.{eq-eqb, ne_eqb, lt-ltb, le-ltb}
use Rattle.rules.specs.Meaning.{All}
use Rattle.laws.proofs.Same.{by_cond}
use Rattle.laws.proofs.Members.{all_below}
use Rattle.listing.specs.Listing.{Marks, none, mark, listing}
use Rattle.listing.specs.References.{size, owned, references, refers, Sound}
use Rattle.listing.specs.Machine.{Run, emit, lists, Entry, trace, finished, traces, run}
use Rattle.listing.specs.Work.{has_mark, with_mark, marks_of, entry_of, stack_of, row_of, Pushed, budget, most, to_come, left, Closed, Ready, Begun, Traced, Listed, Ended}
use Rattle.listing.proofs.Marking.{mark_same, mark-other}
use Rattle.listing.proofs.Searches.{run_old, run_new}
use Rattle.listing.proofs.Listings.{closed_none, closed-listing, run-listing}
use Rattle.listing.proofs.Words.{entry_trace, entry_finished, stack-mark, stack_push, marks_at, marks-take, marks-set, marks-mark, length-mark}

-- ---- references
module _ (statements operands : List ℕ) (s : ℕ) (so : Sound statements operands s) where
  pub refers-counted : (i : ℕ) → i < s → refers statements operands s i ≡ references statements operands i
  unfolding refers
  refers-counted i h = ap (λ (b : Bool). cond b (references statements operands i) []) (lt-ltb i s h)

  pub references-below : (i : ℕ) → i < s → All (λ j. j < 65536) (references statements operands i)
  references-below i h = all_below i 65536 (omega (arith, so.few)) (references statements operands i) (so.earlier i h)

  pub refers-earlier : (i : ℕ) → All (λ j. j < i) (refers statements operands s i)
  unfolding refers
  refers-earlier i =
      at (dec_lt i s)
    where
      at : Dec (i < s) → All (λ j. j < i) (cond (ltb i s) (references statements operands i) [])
      at (yes h) = subst (λ (b : Bool). All (λ j. j < i) (cond b (references statements operands i) [])) (sym (lt-ltb i s h)) (so.earlier i h)
      at (no n) = subst (λ (b : Bool). All (λ j. j < i) (cond b (references statements operands i) [])) (sym (le-ltb i s (omega arith))) tt

-- ---- the budget
budget_above : (statements : List ℕ) (m : Marks) (i n : ℕ) → n ≤ i → budget statements (mark m i) n ≡ budget statements m n
budget_above statements m i zero h = refl
budget_above statements m i (suc n) h =
    ap (λ (b : Bool). budget statements (mark m i) n + cond b 0 (size statements n + 2)) (mark-other m i n (λ e. omega arith))
    ∙ ap (λ (x : ℕ). x + cond (m n) 0 (size statements n + 2)) (budget_above statements m i n (omega arith))

-- a mark takes the row's part out of the budget
pub budget-mark : (statements : List ℕ) (m : Marks) (i n : ℕ) → i < n → m i ≡ false → budget statements m n ≡ budget statements (mark m i) n + (size statements i + 2)
budget-mark statements m i zero h e = absurd (not-suc-le-zero h)
budget-mark statements m i (suc n) h e =
    ⊎_elim last (λ (l : i < n). before (budget-mark statements m i n l e) l) (eq-or-lt_of_le (le_of_suc-le-suc h))
  where
    last : i ≡ n → budget statements m (suc n) ≡ budget statements (mark m i) (suc n) + (size statements i + 2)
    last q =
        let a : m n ≡ false = rw (← q) e in
        let b : mark m i n ≡ true = ap (mark m i) (sym q) ∙ mark_same m i in
        let c : size statements i ≡ size statements n = ap (size statements) q in
        ap (λ (x : Bool). budget statements m n + cond x 0 (size statements n + 2)) a
        ∙ (let z : budget statements m n + (size statements n + 2) ≡ budget statements (mark m i) n + 0 + (size statements i + 2) = omega (arith, budget_above statements m i n (omega arith)) in z)
        ∙ ap (λ (x : Bool). budget statements (mark m i) n + cond x 0 (size statements n + 2) + (size statements i + 2)) (sym b)

    before : budget statements m n ≡ budget statements (mark m i) n + (size statements i + 2) → i < n
        → budget statements m (suc n) ≡ budget statements (mark m i) (suc n) + (size statements i + 2)
    before q l =
        let y : ℕ = cond (m n) 0 (size statements n + 2) in
        (let z : budget statements m n + y ≡ budget statements (mark m i) n + y + (size statements i + 2) = omega arith in z)
        ∙ ap (λ (x : Bool). budget statements (mark m i) n + cond x 0 (size statements n + 2) + (size statements i + 2)) (sym (mark-other m i n (λ p. omega arith)))

pub budget-most : (statements : List ℕ) (m : Marks) (n : ℕ) → budget statements m n ≤ 2 * n + owned statements n
budget-most statements m zero = omega arith
budget-most statements m (suc n) =
    by_cond (λ (x : ℕ). budget statements m n + x ≤ 2 * suc n + owned statements (suc n)) (m n) 0 (size statements n + 2)
    (λ q. omega (arith, budget-most statements m n)) (λ q. omega (arith, budget-most statements m n))

-- ---- entries
entry_odd : (n : ℕ) → n % 2 ≡ 1 → entry_of n ≡ finished (n / 2)
unfolding entry_of
entry_odd n h = ap (λ (b : Bool). cond b (finished (n / 2)) (trace (n / 2))) (eq-eqb (n % 2) 1 h)

entry_even : (n : ℕ) → (n % 2 ≡ 1 → ⊥) → entry_of n ≡ trace (n / 2)
unfolding entry_of
entry_even n h = ap (λ (b : Bool). cond b (finished (n / 2)) (trace (n / 2))) (ne_eqb (n % 2) 1 h)

row_of_lem : (n : ℕ) → row_of (entry_of n) ≡ n / 2
unfolding entry_of
row_of_lem n = by_cond (λ (e : Entry). row_of e ≡ n / 2) (eqb (n % 2) 1) (finished (n / 2)) (trace (n / 2)) (λ q. refl) (λ q. refl)

known-traces : (s : ℕ) (rows : List ℕ) (l : List Entry) → All (λ j. j < s) rows → All (λ e. row_of e < s) l → All (λ e. row_of e < s) (traces rows l)
known-traces s [] l a b = b
known-traces s (i ∷ rows) l a b = (a.0, known-traces s rows l a.1 b)

-- ---- a row with no mark, popped from the top of the stack
module _ (statements operands : List ℕ) (s : ℕ) (so : Sound statements operands s) (w : List ℕ) (t i : ℕ) (rd : Ready statements operands s w (suc t)) (counted : i < s)
    (top : entry_of (get_or w (s + t) 0) ≡ trace i) (new : has_mark w i ≡ false) where
  -- the work area with the row's mark, and with the row as finished
  abbrev turned : List ℕ
  turned = set (with_mark w i) (s + t) (2 * i + 1)

  marked_new : marks_of w s i ≡ false
  marked_new = marks_at w s i counted ∙ new

  spent : budget statements (marks_of w s) s ≡ budget statements (mark (marks_of w s) i) s + (size statements i + 2)
  spent = budget-mark statements (marks_of w s) i s counted marked_new

  pub trace-room : s + t + (size statements i + 2) < length w
  unfolding left
  trace-room = omega (arith, rd.room, rd.space, spent)

  turned_marks : marks_of turned s ≡ mark (marks_of w s) i
  turned_marks = marks-set (with_mark w i) s (s + t) (2 * i + 1) (omega arith) ∙ marks-mark w s i counted (omega (arith, rd.room))

  turned_stack : stack_of turned s (t + 1) ≡ finished i ∷ stack_of w s t
  turned_stack =
      ap (stack_of turned s) (add-one t)
      ∙ stack_push (with_mark w i) s t (2 * i + 1) (rw (length-mark w i) (omega (arith, trace-room)))
      ∙ ap (λ (e : Entry). e ∷ stack_of (with_mark w i) s t) (entry_finished i)
      ∙ ap (λ (l : List Entry). finished i ∷ l) (stack-mark w s i t counted)

  traced_turned : (w' : List ℕ) (r : ℕ) → length w' ≡ length w → Pushed (references statements operands i) turned s (t + 1) (size statements i + 1) w' r
      → Traced statements operands s w (suc t) w' r
  unfolding left to_come
  traced_turned w' r long p =
      record {
        same = same;
        less = less;
        ready =
            record {
              room = omega (arith, rd.room);
              space = omega (arith, less, rd.space);
              known = subst (All (λ e. row_of e < s)) (sym stack) (known-traces s (R i) (finished i ∷ st) (all_below i s (omega arith) (R i) (refers-earlier statements operands s so i)) (counted, rd.known.1));
              closed = subst (λ (o : Run). Closed R o.marks) same rd.closed;
            };
      }
    where
      R : ℕ → List ℕ
      R = refers statements operands s

      st : List Entry
      st = stack_of w s t

      stack : stack_of w' s r ≡ traces (R i) (finished i ∷ st)
      stack = p.stack ∙ ap (traces (references statements operands i)) turned_stack ∙ ap (λ (l : List ℕ). traces l (finished i ∷ st)) (sym (refers-counted statements operands s so i counted))

      marks : marks_of w' s ≡ mark (marks_of w s) i
      marks = marks-take w' turned s p.before ∙ turned_marks

      same : run R s (marks_of w s) (entry_of (get_or w (s + t) 0) ∷ st) ≡ run R s (marks_of w' s) (stack_of w' s r)
      same =
          ap (λ (e : Entry). run R s (marks_of w s) (e ∷ st)) top
          ∙ run_new R (refers-earlier statements operands s so) s (marks_of w s) i st counted marked_new
          ∙ ap (λ (m : Marks). run R s m (traces (R i) (finished i ∷ st))) (sym marks)
          ∙ ap (run R s (marks_of w' s)) (sym stack)

      less : r + budget statements (marks_of w' s) s < suc t + budget statements (marks_of w s) s
      less = omega (arith, spent, p.fits, ap (λ (m : Marks). budget statements m s) marks)

  pub trace-length : (u : List ℕ) → u ≡ with_mark w i → length (set u (s + t) (2 * i + 1)) ≡ length w
  trace-length u e = length-set u (s + t) (2 * i + 1) ∙ ap length e ∙ length-mark w i

  pub traced : (u : List ℕ) → u ≡ with_mark w i → (w' : List ℕ) (r : ℕ) → length w' ≡ length (set u (s + t) (2 * i + 1))
      → Pushed (references statements operands i) (set u (s + t) (2 * i + 1)) s (t + 1) (size statements i + 1) w' r → Traced statements operands s w (suc t) w' r
  traced u e w' r long p =
      traced_turned w' r (long ∙ trace-length u e) (subst (λ (v : List ℕ). Pushed (references statements operands i) (set v (s + t) (2 * i + 1)) s (t + 1) (size statements i + 1) w' r) e p)

-- ---- a walk begins
module _ (statements operands : List ℕ) (s : ℕ) (so : Sound statements operands s) where
  pub begun : (w : List ℕ) (root : ℕ) → root < s → Ready statements operands s w 0 → Begun statements operands s w root (set w s (2 * root)) 1
  unfolding to_come left
  begun w root h rd =
      record {
        whole = whole;
        ready =
            record {
              room = rw (length-set w s (2 * root)) rd.room;
              space = omega (arith, budget-most statements (marks_of (set w s (2 * root)) s) s);
              known = (subst (λ (e : Entry). row_of e < s) (sym top) h, tt);
              closed = subst (λ (o : Run). Closed R o.marks) (sym whole) (closed-listing R (refers-earlier statements operands s so) s (marks_of w s) (root ∷ []) (h, tt) rd.closed);
            };
      }
    where
      R : ℕ → List ℕ
      R = refers statements operands s

      top : entry_of (get_or (set w s (2 * root)) (s + 0) 0) ≡ trace root
      top = ap (λ (n : ℕ). entry_of (get_or (set w s (2 * root)) n 0)) (add-zero s) ∙ ap entry_of (get_or-set_same w s (2 * root) 0 (omega (arith, rd.room))) ∙ entry_trace root

      whole : run R s (marks_of (set w s (2 * root)) s) (entry_of (get_or (set w s (2 * root)) (s + 0) 0) ∷ []) ≡ lists (marks_of w s) (listing R s (marks_of w s) (root ∷ []))
      whole =
          ap (λ (m : Marks). run R s m (entry_of (get_or (set w s (2 * root)) (s + 0) 0) ∷ [])) (marks-set w s s (2 * root) (omega arith))
          ∙ ap (λ (e : Entry). run R s (marks_of w s) (e ∷ [])) top
          ∙ run-listing R (refers-earlier statements operands s so) s (marks_of w s) (root ∷ []) (h, tt) rd.closed

  -- with no marks at all, a walk may begin
  pub ready-cleared : (w : List ℕ) → s + most statements s ≤ length w → marks_of w s ≡ none → Ready statements operands s w 0
  unfolding to_come left
  ready-cleared w h e =
      record {
        room = h;
        space = omega (arith, budget-most statements (marks_of w s) s);
        known = tt;
        closed = subst (Closed (refers statements operands s)) (sym e) (closed_none (refers statements operands s) (refers-earlier statements operands s so) s);
      }

-- ---- what the loop of advance keeps
pub record Going (statements operands : List ℕ) (s : ℕ) (w₀ : List ℕ) (t₀ : ℕ) (w : List ℕ) (t : ℕ) : Type 0 where
  pub same : to_come statements operands s w₀ t₀ ≡ to_come statements operands s w t
  pub ready : Ready statements operands s w t
  pub long : length w ≡ length w₀

module _ (statements operands : List ℕ) (s : ℕ) where
  pub going_from : (w : List ℕ) (t : ℕ) → Ready statements operands s w t → Going statements operands s w t w t
  going_from w t rd = record { same = refl; ready = rd; long = refl }

  pub going_ended : (w₀ : List ℕ) (t₀ : ℕ) (w : List ℕ) (t : ℕ) → Going statements operands s w₀ t₀ w t → t ≤ 0 → Ended statements operands s w₀ t₀ w
  unfolding to_come
  going_ended w₀ t₀ w t g h =
      let e : t ≡ 0 = omega arith in
      record { nothing = g.same ∙ ap (to_come statements operands s w) e; ready = subst (Ready statements operands s w) e g.ready }

-- what a turn of it starts with: the stack has a word
pub record Turn (statements operands : List ℕ) (s : ℕ) (w₀ : List ℕ) (t₀ : ℕ) (w : List ℕ) (t : ℕ) : Type 0 where
  pub sound : Sound statements operands s
  pub going : Going statements operands s w₀ t₀ w t
  pub more : 0 < t

module _ {statements operands : List ℕ} {s : ℕ} {w₀ : List ℕ} {t₀ : ℕ} {w : List ℕ} {t : ℕ} (u : Turn statements operands s w₀ t₀ w t) where
  -- the word at the top
  abbrev word : ℕ
  word = get_or w (s + (t - 1)) 0

  one_more : t ≡ suc (t - 1)
  one_more = omega (arith, u.more)

  pub turn_ready : Ready statements operands s w (suc (t - 1))
  turn_ready = subst (Ready statements operands s w) one_more u.going.ready

  turn_same : to_come statements operands s w₀ t₀ ≡ to_come statements operands s w (suc (t - 1))
  turn_same = u.going.same ∙ ap (to_come statements operands s w) one_more

  pub turn_room : s + t ≤ length w
  unfolding left
  turn_room = omega (arith, u.going.ready.room, u.going.ready.space)

  pub turn_counted : word / 2 < s
  turn_counted = subst (λ (n : ℕ). n < s) (row_of_lem word) turn_ready.known.0

  pub turn_trace : (word % 2 ≡ 1 → ⊥) → entry_of word ≡ trace (word / 2)
  turn_trace n = entry_even word n

  -- what is left once the top is popped is ready, where it has the same marks to come
  popped : (to_come statements operands s w (suc (t - 1))).marks ≡ (to_come statements operands s w (t - 1)).marks → Ready statements operands s w (t - 1)
  unfolding left
  popped e =
      record {
        room = turn_ready.room;
        space = omega (arith, turn_ready.space);
        known = turn_ready.known.1;
        closed = subst (Closed (refers statements operands s)) e turn_ready.closed;
      }

  -- a finished row is listed, and a row with a mark is passed over
  pub turn_listed : word % 2 ≡ 1 → Listed statements operands s w₀ t₀ w (word / 2) (t - 1)
  unfolding to_come
  turn_listed h = record { counted = turn_counted; next = turn_same ∙ one; ready = popped (ap (λ (o : Run). o.marks) one) }
    where
      one : to_come statements operands s w (suc (t - 1)) ≡ emit (word / 2) (to_come statements operands s w (t - 1))
      one = ap (λ (e : Entry). run (refers statements operands s) s (marks_of w s) (e ∷ stack_of w s (t - 1))) (entry_odd word h)

  pub turn_passed : (word % 2 ≡ 1 → ⊥) → has_mark w (word / 2) ≡ true → Traced statements operands s w (suc (t - 1)) w (t - 1)
  unfolding to_come left
  turn_passed n h = record { same = one; less = omega arith; ready = popped (ap (λ (o : Run). o.marks) one) }
    where
      one : to_come statements operands s w (suc (t - 1)) ≡ to_come statements operands s w (t - 1)
      one =
          ap (λ (e : Entry). run (refers statements operands s) s (marks_of w s) (e ∷ stack_of w s (t - 1))) (entry_even word n)
          ∙ run_old (refers statements operands s) (refers-earlier statements operands s u.sound) s (marks_of w s) (word / 2) (stack_of w s (t - 1)) (marks_at w s (word / 2) turn_counted ∙ h)

  module _ (w' : List ℕ) (r : ℕ) (e : Traced statements operands s w (suc (t - 1)) w' r) where
    pub turn_going : length w' ≡ length w → Going statements operands s w₀ t₀ w' r
    turn_going long = record { same = turn_same ∙ e.same; ready = e.ready; long = long ∙ u.going.long }

    pub turn_less : left statements s w' r < left statements s w t
    turn_less = subst (λ (n : ℕ). left statements s w' r < left statements s w n) (sym one_more) e.less
