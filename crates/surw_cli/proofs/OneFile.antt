-- What a shelf gives for a name is a file that isn't there, one that is too long, or the bytes of one: no two of these.
use Rattle.std.proofs.Common.{◌≡◌, ℕ, ◌<◌, List, length, Option, None, Some, sym, subst, ◌∙◌, arith}
use Rattle.std.specs.Option.{IsSome}
use Rattle.surw_io.specs.Content.{Entry, File, Missing}
use Rattle.surw_cli.specs.Answer.{Answer}
use Rattle.surw_cli.specs.FileAnswer.{HasFile, IsFileAnswer, Absent, Long, Held}

-- one answer at most is made of some bytes
abbrev pub MakesOne : (List ℕ → Answer → Type 0) → Type 0
MakesOne IsMade = (bytes : List ℕ) (answer other : Answer) → IsMade bytes answer → IsMade bytes other → other ≡ answer

none-absent : (bytes : List ℕ) → Some (File bytes) ≡ Some Missing → ⊥
none-absent bytes same = cc same

none-long : (limit : ℕ) (bytes held : List ℕ) → limit < length bytes → HasFile limit (Some (File bytes)) held → ⊥
none-long limit bytes held long file = let few = subst (λ (b : List ℕ). limit < length b) file.held long in omega (arith, few, file.short)

-- where the shelf tells what it gives, one answer holds
pub file-one : (limit : ℕ) (IsMade : List ℕ → Answer → Type 0) → MakesOne IsMade → (coming : Option Entry) → IsSome coming → (answer other : Answer)
    → IsFileAnswer limit IsMade coming answer → IsFileAnswer limit IsMade coming other → other ≡ answer
file-one limit IsMade one None some answer other is twin = cc some
file-one limit IsMade one (Some Missing) some answer other (Absent there is) (Absent again same) = same ∙ sym is
file-one limit IsMade one (Some Missing) some answer other (Long long is) twin = absurd long
file-one limit IsMade one (Some Missing) some answer other (Held bytes file made) twin = absurd file.held
file-one limit IsMade one (Some Missing) some answer other is (Long long same) = absurd long
file-one limit IsMade one (Some Missing) some answer other is (Held bytes file made) = absurd file.held
file-one limit IsMade one (Some (File bytes)) some answer other (Absent there is) twin = absurd (none-absent bytes there)
file-one limit IsMade one (Some (File bytes)) some answer other is (Absent there same) = absurd (none-absent bytes there)
file-one limit IsMade one (Some (File bytes)) some answer other (Long long is) (Long again same) = same ∙ sym is
file-one limit IsMade one (Some (File bytes)) some answer other (Long long is) (Held held file made) = absurd (none-long limit bytes held long file)
file-one limit IsMade one (Some (File bytes)) some answer other (Held held file made) (Long long same) = absurd (none-long limit bytes held long file)
file-one limit IsMade one (Some (File bytes)) some answer other (Held held file made) (Held again twin remade) =
    one held answer other made (subst (λ (b : List ℕ). IsMade b other) (sym twin.held ∙ file.held) remade)
