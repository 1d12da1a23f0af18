-- From what stands next in a text, over some tokens, to what stands next behind them.
-- Assumes nothing.
use mathlib.Core.Path.{◌≡◌, refl, sym, ap, ◌∙◌, subst}
use mathlib.Core.List.{List, [], ◌∷◌, ◌++◌}
use Prim.Native.Nat.{ℕ, ◌+◌, ◌≤◌}
use native.Mathlib.Omega.{arith}
use lib.ListN.{length, drop}
use Rattle.rules.specs.declared.Lexed.{Lexed}
use Rattle.rules.specs.declared.Lexed.TheVariants.{Found, End, Refused}
use Rattle.rules.specs.Bytes.{part}
use Rattle.rules.specs.Tokens.{token_at}
use Rattle.bynames.proofs.Tokens.{Next, end, found, token}
use Rattle.bynames.proofs.Located.{spelt, located}
use Rattle.bynames.proofs.Reader.{ahead}
use Rattle.bynames.proofs.Moves.{Some, token_some, token-ahead}
use Rattle.rules.specs.Grammar.{Token, Written, Lexes, at_end, at_token}

-- the next token is so, and this text stands behind it
pub record First (x : Token) (n : Next) : Type 0 where
  pub kind : ℕ
  pub letters : List ℕ
  pub behind : List ℕ
  pub is : n ≡ found kind letters behind
  pub written : Written x kind letters

pub data Leads : Next → List Token → Next → Type 0 where
  here : {n : Next} → Leads n [] n
  over : {x : Token} {l : List Token} {n m : Next} → (f : First x n) → Leads (token f.behind) l m → Leads n (x ∷ l) m

leads_nil : {n m : Next} → Leads n [] m → n ≡ m
leads_nil here = refl

pub leads_cons : {x : Token} {l : List Token} {n m : Next} → Leads n (x ∷ l) m → (f : First x n) × Leads (token f.behind) l m
leads_cons (over f p) = (f, p)

-- one way after another
pub leads_join : {t u : List Token} {n m k : Next} → Leads n t m → Leads m u k → Leads n (t ++ u) k
leads_join here q = q
leads_join (over f p) q = over f (leads_join p q)

pub record Split (t u : List Token) (n k : Next) : Type 0 where
  pub mid : Next
  pub left : Leads n t mid
  pub right : Leads mid u k

pub leads_split : (t u : List Token) {n k : Next} → Leads n (t ++ u) k → Split t u n k
leads_split [] u {n} p = record { mid = n; left = here; right = p }
leads_split (x ∷ t) u (over f p) =
    let q = leads_split t u p in
    record { mid = q.mid; left = over f q.left; right = q.right }

-- one way, and a token more at its end
pub leads_on : (t : List Token) (x : Token) {u : List Token} {n m k : Next} → Leads n (t ++ (x ∷ [])) m → Leads m u k → Leads n (t ++ (x ∷ u)) k
leads_on [] x {u} {k = k} (over f p) q = over f (subst (λ (z : Next). Leads z u k) (sym (leads_nil p)) q)
leads_on (y ∷ t) x (over f p) q = over f (leads_on t x p q)

-- each token has a byte
pub leads_some : {t : List Token} {n m : Next} → Leads n t m → Some n → Some m
leads_some here s = s
leads_some (over f p) s = leads_some p (token_some f.behind)

pub leads_long : {t : List Token} {n m : Next} → Leads n t m → Some n → length t ≤ ahead n
leads_long here s = omega arith
leads_long (over {l = l} {n} f p) s =
    let some : 1 ≤ length f.letters = subst Some f.is s in
    let more : length l ≤ ahead (token f.behind) = leads_long p (token_some f.behind) in
    let is : ahead n ≡ length f.letters + length f.behind = ap ahead f.is in
    omega (arith, token-ahead f.behind)

-- ---- the tokens of a text lead to its end
module _ (text : List ℕ) where
  found_there : (at : ℕ) (l : Lexed) → token_at text at ≡ l → token (drop at text) ≡ spelt text l
  found_there at l e = located text at ∙ ap (spelt text) e

  pub lexes-lead : {at : ℕ} {l : List Token} → Lexes text at l → Leads (token (drop at text)) l end
  lexes-lead {at} (at_end e) = subst (λ (n : Next). Leads n [] end) (sym (found_there at End e)) here
  lexes-lead {at} (at_token {t = t} e w d) =
      over (record { kind = t.kind; letters = part text t.first t.past; behind = drop t.past text; is = found_there at (Found t) e; written = w }) (lexes-lead d)

  none_there : (at : ℕ) (x : Lexed) → token_at text at ≡ x → spelt text x ≡ end → Lexes text at []
  none_there at (Found t) e h = absurd (let z : ◌≡◌ {A = ℕ} 0 1 = cc in omega arith)
  none_there at End e h = at_end e
  none_there at (Refused p) e h = absurd (let z : ◌≡◌ {A = ℕ} 0 1 = cc in omega arith)

  some_there : (at : ℕ) (y : Token) (l : List Token) → ((a : ℕ) → Leads (token (drop a text)) l end → Lexes text a l)
      → (x : Lexed) → token_at text at ≡ x → (f : First y (spelt text x)) → Leads (token f.behind) l end → Lexes text at (y ∷ l)
  some_there at y l ih (Found t) e f p =
      let is = f.is in
      let k : f.kind ≡ t.kind = cc in
      let w : f.letters ≡ part text t.first t.past = cc in
      let r : f.behind ≡ drop t.past text = cc in
      let v : Written y t.kind (part text t.first t.past) = rw (← k, ← w) f.written in
      let q : Leads (token (drop t.past text)) l end = rw (← r) p in
      at_token e v (ih t.past q)
  some_there at y l ih End e f p = absurd (let is = f.is in let z : ◌≡◌ {A = ℕ} 0 1 = cc in omega arith)
  some_there at y l ih (Refused q) e f p = absurd (let is = f.is in let z : ◌≡◌ {A = ℕ} 0 1 = cc in omega arith)

  pub lead-lexes : (l : List Token) (at : ℕ) → Leads (token (drop at text)) l end → Lexes text at l
  lead-lexes [] at p = none_there at (token_at text at) refl (sym (located text at) ∙ leads_nil p)
  lead-lexes (y ∷ l) at p =
      let q : (f : First y (token (drop at text))) × Leads (token f.behind) l end = leads_cons p in
      some_there at y l (lead-lexes l) (token_at text at) refl (moved q.0) q.1
    where
      moved : First y (token (drop at text)) → First y (spelt text (token_at text at))
      moved f = record { kind = f.kind; letters = f.letters; behind = f.behind; is = sym (located text at) ∙ f.is; written = f.written }
