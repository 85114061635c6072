-- A journal with no entry forced: it tells the same replies and leads to the same world.
use Rattle.std.proofs.Common.{◌≡◌, ℕ, ◌==◌, Bool, true, false, cond, List, [], ◌∷◌, length, map, take, Some, refl, ap, sym, subst, ◌∙◌, inl, inr}
use Rattle.std.proofs.lemmas.List.{length-map, take-map}
use Rattle.std.proofs.lemmas.Option.{none-some, same_Some, slice_get-map, slice_get_cases}
use Rattle.std.specs.List.{filter, slice_get}
use Rattle.std.specs.Option.{option_map}
use Rattle.test_world.specs.World.{WorldState, after}
use Rattle.run_rules.specs.declared.entry.Entry.{Entry}
use Rattle.run_rules.specs.Journal.{world_after}
use Rattle.run_rules.specs.Replay.{unforced}
use Rattle.run_rules.specs.Replies.{replies_told}
use Rattle.run_rules.proofs.Prefixes.{AtEach}

-- an entry that isn't forced
abbrev pub freed : Entry → Entry
freed entry = record entry { forced = false }

told-one : (mine : Bool) (entry : Entry) (rest more : List Entry) → map (λ (e : Entry). e.reply) rest ≡ map (λ (e : Entry). e.reply) more
    → map (λ (e : Entry). e.reply) (cond mine (freed entry ∷ rest) rest) ≡ map (λ (e : Entry). e.reply) (cond mine (entry ∷ more) more)
told-one true entry rest more same = ap (λ replies. entry.reply ∷ replies) same
told-one false entry rest more same = same

-- each thread is told the same
pub told-unforced : (journal : List Entry) (thread : ℕ) → replies_told (unforced journal) thread ≡ replies_told journal thread
unfolding replies_told
told-unforced [] thread = refl
told-unforced (entry ∷ entries) thread =
    told-one (entry.thread == thread) entry (filter (λ (e : Entry). e.thread == thread) (unforced entries))
    (filter (λ (e : Entry). e.thread == thread) entries) (told-unforced entries thread)

-- the world is the same
pub world-unforced : (world : WorldState) (journal : List Entry) → world_after world (unforced journal) ≡ world_after world journal
unfolding world_after
world-unforced world [] = refl
world-unforced world (entry ∷ entries) = world-unforced (after world entry.thread entry.event) entries

pub length-unforced : (journal : List Entry) → length (unforced journal) ≡ length journal
length-unforced journal = length-map journal freed

-- what holds of each entry that isn't forced, after those before it, holds of each entry of the journal
pub each-unforced : (P : List Entry → Entry → Type 0) (journal : List Entry)
    → ((k : ℕ) (entry : Entry) → slice_get journal k ≡ Some entry → P (unforced (take k journal)) (freed entry)) → AtEach P (unforced journal)
each-unforced P journal each k entry at = elim (slice_get_cases journal k).1 [
  | inl there ↦
      let same : freed there.0 ≡ entry =
      same_Some (freed there.0) entry (sym (slice_get-map freed journal k ∙ ap (option_map freed) there.2) ∙ at) in
      subst (λ prefix. P prefix entry) (sym (take-map freed k journal)) (subst (λ e. P (unforced (take k journal)) e) same (each k there.0 there.2))
  | inr past ↦ absurd (none-some entry (sym (slice_get-map freed journal k ∙ ap (option_map freed) past.1) ∙ at))
]
