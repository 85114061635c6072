-- A journal with one entry more.
use Rattle.std.proofs.Common.{◌≡◌, ◌≢◌, ℕ, ◌==◌, Bool, true, false, cond, List, [], ◌∷◌, ◌++◌, map, refl, ap, ◌∙◌}
use Rattle.std.proofs.lemmas.Bool.{eq-eqb, ne_eqb}
use Rattle.std.proofs.lemmas.List.{map-append, append-nil}
use Rattle.std.proofs.lemmas.List.Elements.{filter-append}
use Rattle.std.specs.List.{filter}
use Rattle.test_world.specs.World.{WorldState, after}
use Rattle.run_rules.specs.declared.entry.Entry.{Entry}
use Rattle.run_rules.specs.Journal.{world_after}
use Rattle.run_rules.specs.Replies.{replies_told}

-- the world after two journals, one after the other
pub world-append : (world : WorldState) (journal more : List Entry)
    → world_after world (journal ++ more) ≡ world_after (world_after world journal) more
unfolding world_after
world-append world [] more = refl
world-append world (entry ∷ entries) more = world-append (after world entry.thread entry.event) entries more

-- the world after one entry more
pub world-more : (world : WorldState) (journal : List Entry) (entry : Entry)
    → world_after world (journal ++ entry ∷ []) ≡ after (world_after world journal) entry.thread entry.event
unfolding world_after
world-more world journal entry = world-append world journal (entry ∷ [])

replies-append : (journal more : List Entry) (thread : ℕ)
    → replies_told (journal ++ more) thread ≡ replies_told journal thread ++ replies_told more thread
unfolding replies_told
replies-append journal more thread =
    ap (λ entries. map (λ (e : Entry). e.reply) entries) (filter-append (λ (e : Entry). e.thread == thread) journal more)
    ∙ map-append (λ (e : Entry). e.reply) (filter (λ (e : Entry). e.thread == thread) journal) (filter (λ (e : Entry). e.thread == thread) more)

reply-one : (entry : Entry) (thread : ℕ) (b : Bool) → (entry.thread == thread) ≡ b
    → replies_told (entry ∷ []) thread ≡ map (λ (e : Entry). e.reply) (cond b (entry ∷ []) [])
unfolding replies_told
reply-one entry thread b e = ap (λ (b : Bool). map (λ (e : Entry). e.reply) (cond b (entry ∷ []) [])) e

-- the thread of the entry is told its reply
pub told-same : (journal : List Entry) (entry : Entry)
    → replies_told (journal ++ entry ∷ []) entry.thread ≡ replies_told journal entry.thread ++ entry.reply ∷ []
told-same journal entry =
    replies-append journal (entry ∷ []) entry.thread
    ∙ ap (λ rest. replies_told journal entry.thread ++ rest) (reply-one entry entry.thread true (eq-eqb entry.thread entry.thread refl))

-- no other thread is told anything
pub told-other : (journal : List Entry) (entry : Entry) (thread : ℕ) → entry.thread ≢ thread
    → replies_told (journal ++ entry ∷ []) thread ≡ replies_told journal thread
told-other journal entry thread ne =
    replies-append journal (entry ∷ []) thread
    ∙ ap (λ rest. replies_told journal thread ++ rest) (reply-one entry thread false (ne_eqb entry.thread thread ne))
    ∙ append-nil (replies_told journal thread)
