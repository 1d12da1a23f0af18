-- Each arm by the length that it names: its candidates are the words of that length. Behind the last arm none is left.
-- Assumes nothing.
use mathlib.Core.Path.{refl, sym, ap, ◌∙◌}
use mathlib.Core.List.{[], ◌∷◌}
use lib.ListN.{length}
use Rattle.rules.specs.Keywords.{keyword_number}
use Rattle.laws.proofs.Tests.{nums}
use Rattle.instructions.specs.Candidates.{all_keywords}
use Rattle.instructions.proofs.Candidates.{no_candidate, keyword_found, keywords_numbered}
use Rattle.instructions.proofs.keywords.keyword.Goals as goal

pub returns-in-2 : goal.returns-in-2
returns-in-2 c = keyword_found c.args.w.now c.in-2.is c.only.ensures

pub returns-in-3 : goal.returns-in-3
returns-in-3 c = keyword_found c.args.w.now c.in-3.is c.of_three.ensures

pub returns-in-4 : goal.returns-in-4
returns-in-4 c = keyword_found c.args.w.now c.in-4.is c.only-in-4.ensures

pub returns-in-5 : goal.returns-in-5
returns-in-5 c = keyword_found c.args.w.now c.in-5.is c.of_five.ensures

pub returns-in-6 : goal.returns-in-6
returns-in-6 c = keyword_found c.args.w.now c.in-6.is c.only-in-6.ensures

pub returns-in-7 : goal.returns-in-7
returns-in-7 c = keyword_found c.args.w.now c.in-7.is c.of_seven.ensures

pub returns-in-8 : goal.returns-in-8
returns-in-8 c = keyword_found c.args.w.now c.in-8.is c.of_eight.ensures

pub returns-in-10 : goal.returns-in-10
returns-in-10 c = keyword_found c.args.w.now c.in-10.is c.only-in-10.ensures

pub returns-in-11 : goal.returns-in-11
returns-in-11 c = keyword_found c.args.w.now c.in-11.is c.only-in-11.ensures

pub returns-in-12 : goal.returns-in-12
returns-in-12 c = keyword_found c.args.w.now c.in-12.is c.of_twelve.ensures

pub returns-in-13 : goal.returns-in-13
returns-in-13 c = keyword_found c.args.w.now c.in-13.is c.only-in-13.ensures

pub returns-in-15 : goal.returns-in-15
returns-in-15 c = keyword_found c.args.w.now c.in-15.is c.only-in-15.ensures

pub returns-in-16 : goal.returns-in-16
returns-in-16 c = keyword_found c.args.w.now c.in-16.is c.only-in-16.ensures

pub returns-in_default : goal.returns-in_default
returns-in_default c = ap keyword_number (sym (no_candidate length (2 ∷ 3 ∷ 4 ∷ 5 ∷ 6 ∷ 7 ∷ 8 ∷ 10 ∷ 11 ∷ 12 ∷ 13 ∷ 15 ∷ 16 ∷ []) c.args.w.now all_keywords refl (search nums))) ∙ keywords_numbered c.args.w.now
