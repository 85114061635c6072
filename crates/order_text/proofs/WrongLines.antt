-- The number of the first line that isn't as asked, behind lines that are.
use Rattle.std.proofs.Common.{◌≡◌, ℕ, zero, suc, ◌+◌, ◌<◌, List, [], ◌∷◌, ◌++◌, length, get_or, inl, inr, sym, subst, ◌∙◌, arith, length-append}
use Rattle.std.proofs.lemmas.Bool.{cases_lt}
use Rattle.std.proofs.lemmas.List.{get_or_append_left, get_or_at}
use Rattle.order_text.specs.FileFault.{IsFirstWrongLine, IsOtherFile, fault_at}
use Rattle.surw_base.specs.declared.list.ListFault.{ListFault}
use Rattle.surw_base.specs.declared.list.ListFault.TheVariants as list

-- each of the lines is as asked
abbrev pub AreAsked : (ℕ → List ℕ → Type 0) → List (List ℕ) → Type 0
AreAsked IsAsked lines = (place : ℕ) → place < length lines → IsAsked place (get_or lines place [])

pub none-asked : (IsAsked : ℕ → List ℕ → Type 0) → AreAsked IsAsked []
none-asked IsAsked place lt = absurd (omega arith)

pub one-asked : (IsAsked : ℕ → List ℕ → Type 0) (first : List ℕ) → IsAsked 0 first → AreAsked IsAsked (first ∷ [])
one-asked IsAsked first one zero lt = one
one-asked IsAsked first one (suc k) lt = absurd (omega arith)

pub two-asked : (IsAsked : ℕ → List ℕ → Type 0) (first second : List ℕ) → IsAsked 0 first → IsAsked 1 second → AreAsked IsAsked (first ∷ second ∷ [])
two-asked IsAsked first second one two zero lt = one
two-asked IsAsked first second one two (suc zero) lt = two
two-asked IsAsked first second one two (suc (suc k)) lt = absurd (omega arith)

-- the line behind them is missing
pub wrong-missing : (IsAsked : ℕ → List ℕ → Type 0) (many number : ℕ) (lines done : List (List ℕ)) → lines ≡ done → AreAsked IsAsked done
    → length done < many → number ≡ length done + 1 → IsFirstWrongLine IsAsked many lines number
wrong-missing IsAsked many number lines done is asked less numbered =
    subst (λ (ls : List (List ℕ)). IsFirstWrongLine IsAsked many ls number) (sym is) record {
      place = length done;
      numbered = numbered;
      due = inl less;
      before = λ earlier lt. (lt, asked earlier lt);
      wrong = λ there. absurd (omega (arith, there));
    }

-- the line behind them isn't as asked
pub wrong-line : (IsAsked : ℕ → List ℕ → Type 0) (many number place : ℕ) (lines done : List (List ℕ)) (line : List ℕ) (rest : List (List ℕ))
    → lines ≡ done ++ line ∷ rest → length done ≡ place → AreAsked IsAsked done → (IsAsked place line → ⊥) → number ≡ place + 1
    → IsFirstWrongLine IsAsked many lines number
wrong-line IsAsked many number place lines done line rest is long asked bad numbered =
    let more : length (done ++ line ∷ rest) ≡ length done + (length rest + 1) = length-append done (line ∷ rest) ∙ omega arith in
    subst (λ (ls : List (List ℕ)). IsFirstWrongLine IsAsked many ls number) (sym is) record {
      place = place;
      numbered = numbered;
      due = inr (omega (arith, more, long));
      before = λ earlier lt.
          let there : earlier < length done = omega (arith, long) in
          (omega (arith, more, there), subst (IsAsked earlier) (sym (get_or_append_left done (line ∷ rest) [] earlier there)) (asked earlier there));
      wrong = λ there right. bad (subst (IsAsked place) (get_or_at done line rest [] place long) right);
    }

-- a line follows the last
pub wrong-extra : (IsAsked : ℕ → List ℕ → Type 0) (many number place : ℕ) (lines done rest : List (List ℕ))
    → lines ≡ done ++ rest → 0 < length rest → length done ≡ place → AreAsked IsAsked done → ((line : List ℕ) → IsAsked place line → ⊥) → number ≡ place + 1
    → IsFirstWrongLine IsAsked many lines number
wrong-extra IsAsked many number place lines done [] is some long asked bad numbered = absurd (omega arith)
wrong-extra IsAsked many number place lines done (line ∷ rest) is some long asked bad numbered =
    wrong-line IsAsked many number place lines done line rest is long asked (bad line) numbered

-- the line behind them lists no numbers, for this cause
pub wrong-list : (IsAsked : ℕ → List ℕ → Type 0) (many number place : ℕ) (lines done : List (List ℕ)) (line : List ℕ) (rest : List (List ℕ)) (fault : ListFault)
    → lines ≡ done ++ line ∷ rest → length done ≡ place → AreAsked IsAsked done → (IsAsked place line → fault ≡ list.OutOfMemory) → number ≡ place + 1
    → IsOtherFile (IsFirstWrongLine IsAsked many lines) (fault_at fault number)
wrong-list IsAsked many number place lines done line rest list.Form is long asked only numbered =
    wrong-line IsAsked many number place lines done line rest is long asked (λ right. let same : list.Form ≡ list.OutOfMemory = only right in cc same) numbered
wrong-list IsAsked many number place lines done line rest list.OutOfMemory is long asked only numbered = tt

-- no line before the first wrong one is wrong
no-earlier : (IsAsked : ℕ → List ℕ → Type 0) (many : ℕ) (lines : List (List ℕ)) (number other : ℕ)
    (is : IsFirstWrongLine IsAsked many lines number) (twin : IsFirstWrongLine IsAsked many lines other) → is.place < twin.place → ⊥
no-earlier IsAsked many lines number other is twin less =
    let right = twin.before is.place less in
    is.wrong right.0 right.1

pub number-one : (IsAsked : ℕ → List ℕ → Type 0) (many : ℕ) (lines : List (List ℕ)) (number other : ℕ)
    → IsFirstWrongLine IsAsked many lines number → IsFirstWrongLine IsAsked many lines other → other ≡ number
number-one IsAsked many lines number other is twin = elim (cases_lt is.place twin.place) [
  | inl less ↦ absurd (no-earlier IsAsked many lines number other is twin less)
  | inr no_less ↦ elim (cases_lt twin.place is.place) [
    | inl more ↦ absurd (no-earlier IsAsked many lines other number twin is more)
    | inr no_more ↦ omega (arith, no_less, no_more, is.numbered, twin.numbered)
  ]
]
