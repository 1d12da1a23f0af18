-- Right sides by the word that they begin with.
-- Assumes nothing.
use Rattle.std.proofs.Common.{ℕ, ◌<◌, ◌≡◌, refl, List, Option, Some, None, Result, Ok, Err, arith}
use borrow.Author.Tests.{lt-ltb}
use Rattle.rules.specs.declared.Spot.{Spot}
use Rattle.rules.specs.declared.Side.{Side}
use Rattle.rules.specs.declared.keyword.Keyword.{Keyword}
use Rattle.rules.specs.declared.keyword.Keyword.TheVariants as word
use Rattle.rules.specs.Keywords.{keyword_number}
use Rattle.rules.specs.Reading as R
use Rattle.rules.specs.World.{stop}
use Rattle.instructions.specs.declared.table.Instruction.{Instruction}
use Rattle.parser.specs.declared.Parser.{Parser}
use Rattle.parser.specs.declared.fault.Fault.{Fault}
use Rattle.parser.specs.declared.fault.What.TheVariants as what
use Rattle.parser.specs.Stands.{RunsTo, Runs, world, ahead_of, number_of}
use Rattle.parser.proofs.Chains.{kept}
use Rattle.parser.proofs.Leaves.{leaves}
use Rattle.parser.proofs.Steps.{steps, then, stops, seen, still}
use Rattle.reader.proofs.Words.{no_keyword}

-- a refusal at the last token found
pub refuses_last : {C D : Type 0} (u : C → D) (p : Parser) (e : Fault) (k : ℕ) → number_of e.what ≡ k → e.at ≡ p.stand.last → RunsTo {A = C} u (λ w. stop k w.stand.last) p (Err e) p
unfolding world
refuses_last u p e k i j = record { tells = rw (i, j); keeps = kept p; ready = λ h. tt }

-- a keyword that begins no right side
pub no_side : (p : Parser) (k : Keyword) → (k ≡ word.Var → ⊥) → (k ≡ word.Block → ⊥) → (k ≡ word.Phi → ⊥) → (k ≡ word.Reservedinst → ⊥) → (k ≡ word.Reservedconst → ⊥) → Runs (R.side_of (keyword_number (Some k)) 59) p (Err (record { what = what.Token; at = p.stand.last })) p
unfolding R.side_of
no_side p word.Var a b c d e = absurd (a refl)
no_side p word.Block a b c d e = absurd (b refl)
no_side p word.Phi a b c d e = absurd (c refl)
no_side p word.Reservedinst a b c d e = absurd (d refl)
no_side p word.Reservedconst a b c d e = absurd (e refl)
no_side p word.Pc a b c d e = refuses_last _ p _ _ refl refl
no_side p word.Blockpc a b c d e = refuses_last _ p _ _ refl refl
no_side p word.Infer a b c d e = refuses_last _ p _ _ refl refl
no_side p word.Result a b c d e = refuses_last _ p _ _ refl refl
no_side p word.Cand a b c d e = refuses_last _ p _ _ refl refl
no_side p word.PowerOfTwo a b c d e = refuses_last _ p _ _ refl refl
no_side p word.Negative a b c d e = refuses_last _ p _ _ refl refl
no_side p word.NonNegative a b c d e = refuses_last _ p _ _ refl refl
no_side p word.NonZero a b c d e = refuses_last _ p _ _ refl refl
no_side p word.HasExternalUses a b c d e = refuses_last _ p _ _ refl refl
no_side p word.SignBits a b c d e = refuses_last _ p _ _ refl refl
no_side p word.Range a b c d e = refuses_last _ p _ _ refl refl
no_side p word.DemandedBits a b c d e = refuses_last _ p _ _ refl refl
no_side p word.HarvestedFromUse a b c d e = refuses_last _ p _ _ refl refl

-- no keyword
pub no_word : (p : Parser) → Runs (R.side_of (keyword_number None) 59) p (Err (record { what = what.Token; at = p.stand.last })) p
unfolding R.side_of
no_word p = refuses_last _ p _ _ refl refl

module _ (p q : Parser) (text : List ℕ) (t : Spot) (b : Result Side Fault) where
  pub by_instruction : (i : Instruction) → i.place ≡ R.instruction_at text t → Runs (R.instruction_side i.place) p b q → Runs (R.side_of (R.keyword_at text t) (R.instruction_at text t)) p b q
  unfolding R.side_of
  by_instruction i e x =
      let low : R.instruction_at text t < 59 = omega (arith, e, i.in_table) in
      rw (no_keyword text t low) (rw (lt-ltb _ _ low) (rw (← e) x))

  pub by_keyword : (k : Option Keyword) → 59 ≡ R.instruction_at text t → keyword_number k ≡ R.keyword_at text t → Runs (R.side_of (keyword_number k) 59) p b q → Runs (R.side_of (R.keyword_at text t) (R.instruction_at text t)) p b q
  by_keyword k e f x = rw (← e, ← f) x

-- the right side that begins with the token that is seen
pub rhs : (p q r : Parser) (o : Option Spot) (b : Result Side Fault) → RunsTo ahead_of R.lookahead p (Ok o) q → Runs (R.side_of (R.keyword_at q.text.bytes.now (ahead_of o)) (R.instruction_at q.text.bytes.now (ahead_of o))) q b r → Runs R.assignment_rhs p b r
unfolding R.assignment_rhs world
rhs p q r o b x y = then _ _ _ _ _ _ _ _ _ x (seen _ _ _ _ _ _ _ refl (seen _ _ _ _ _ _ _ refl y))

pub ruleset keyword_steps = (steps, no_side, no_word)

pub ruleset word_steps = (by_instruction, by_keyword)

pub ruleset rhs_steps = (stops, still, rhs, leaves)
