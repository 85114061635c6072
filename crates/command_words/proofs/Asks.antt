-- What words ask for is one ask.
use Rattle.std.proofs.Common.{◌≡◌, ℕ, List, [], ◌∷◌, Option, None, Some, IsSome, ◌⊎◌, inl, inr, false, refl, ap, sym, subst, ◌∙◌}
use Rattle.std.proofs.lemmas.Bool.{both_ways}
use Rattle.std.specs.List.{find}
use Rattle.std.specs.Str.{bytes_eq}
use Rattle.scenario_toml.specs.Texts.{strategy_of}
use Rattle.scenario_toml.specs.declared.strategy.Strategy.{Strategy}
use Rattle.command_words.specs.Ask.{Ask, AsksFor, IsRead, OneAsk, number_by}
use Rattle.command_words.specs.Given.{Given, IsGiven}
use Rattle.command_words.specs.Number.{depth_of, number_of}
use Rattle.command_words.specs.Job.{can_choose, can_seed, job_word}
use Rattle.command_words.specs.declared.job.Job.{Job}
use Rattle.command_words.specs.declared.job.Job.TheVariants.{Order, Draws, Plan, Profile, Check, Make, Run, Replay}

-- the job of a word
job_by : List ℕ → Option Job
job_by word = find (λ job. bytes_eq (job_word job) word) (Order ∷ Draws ∷ Plan ∷ Profile ∷ Check ∷ Make ∷ Run ∷ Replay ∷ [])

job-back : (job : Job) → job_by (job_word job) ≡ Some job
unfolding job_by
job-back Order = refl
job-back Draws = refl
job-back Plan = refl
job-back Profile = refl
job-back Check = refl
job-back Make = refl
job-back Run = refl
job-back Replay = refl

some-one : {A : Type 0} (x y : A) → Some x ≡ Some y → x ≡ y
some-one x y same = cc same

-- a word is the word of one job
pub job-one : (job other : Job) → job_word job ≡ job_word other → job ≡ other
job-one job other same = some-one job other (sym (job-back job) ∙ ap job_by same ∙ job-back other)

-- one value is read of a given text
pub read-one : {A : Type 0} (read : List ℕ → Option A) (text : Option (List ℕ)) (value other : Option A) → IsRead read text value → IsRead read text other → value ≡ other
read-one read None value other is twin = is ∙ sym twin
read-one read (Some text) value other is twin = sym is.0 ∙ twin.0

pub one-ask : OneAsk
one-ask jobs words ask other is twin =
    let job : other.job ≡ ask.job = job-one other.job ask.job (some-one _ _ (sym twin.job ∙ is.job)) in
    let name : other.name ≡ ask.name = some-one _ _ (sym twin.name ∙ is.name) in
    let saved : other.saved ≡ ask.saved = sym twin.saved ∙ is.saved in
    let save : other.save ≡ ask.save = sym twin.save ∙ is.save in
    let strategy : other.choice.strategy ≡ ask.choice.strategy = read-one _ _ _ _ twin.strategy is.strategy in
    let seed : other.choice.seed ≡ ask.choice.seed = read-one _ _ _ _ twin.seed is.seed in
    let depth : other.choice.depth ≡ ask.choice.depth = read-one _ _ _ _ twin.depth is.depth in
    let number : other.number ≡ ask.number = some-one _ _ (sym twin.number ∙ (λ i. number_by (job i) (name i)) ∙ is.number) in
    λ i. record {
      job = job i;
      name = name i;
      saved = saved i;
      save = save i;
      choice = record { strategy = strategy i; seed = seed i; depth = depth i };
      number = number i;
    }

-- words that give these texts ask for the job of the text for one
job-asked : (jobs : List Job) (words : List (List ℕ)) (texts : Given) (ask : Ask) (word : List ℕ) (job : Job)
    → IsGiven words texts → AsksFor jobs words ask → texts.job ≡ Some word → word ≡ job_word job → job ≡ ask.job
job-asked jobs words texts ask word job is asks there of = job-one job ask.job (sym of ∙ some-one _ _ (sym there ∙ is.job ∙ asks.job))

-- so they ask for nothing where they choose what the job's scenario can't be chosen
pub chosen-none : (jobs : List Job) (words : List (List ℕ)) (texts : Given) (ask : Ask) (word : List ℕ) (job : Job) (strategy : Option Strategy) (depth : Option ℕ)
    → IsGiven words texts → AsksFor jobs words ask → texts.job ≡ Some word → word ≡ job_word job
    → IsRead strategy_of texts.strategy strategy → IsRead depth_of texts.depth depth → IsSome strategy ⊎ IsSome depth → can_choose job ≡ false → ⊥
chosen-none jobs words texts ask word job strategy depth is asks there of strategy_is depth_is some not =
    let same = job-asked jobs words texts ask word job is asks there of in
    let first : strategy ≡ ask.choice.strategy = read-one strategy_of _ _ _ (subst (λ text. IsRead strategy_of text strategy) is.strategy strategy_is) asks.strategy in
    let second : depth ≡ ask.choice.depth = read-one depth_of _ _ _ (subst (λ text. IsRead depth_of text depth) is.depth depth_is) asks.depth in
    both_ways (can_choose ask.job) (sym (ap can_choose same) ∙ not)
    (asks.chooses (elim some [ inl one ↦ inl (subst IsSome first one) | inr one ↦ inr (subst IsSome second one) ]))

-- or where they choose a seed that it can't be given
pub seeded-none : (jobs : List Job) (words : List (List ℕ)) (texts : Given) (ask : Ask) (word : List ℕ) (job : Job) (seed : Option ℕ)
    → IsGiven words texts → AsksFor jobs words ask → texts.job ≡ Some word → word ≡ job_word job
    → IsRead number_of texts.seed seed → IsSome seed → can_seed job ≡ false → ⊥
seeded-none jobs words texts ask word job seed is asks there of seed_is some not =
    let same = job-asked jobs words texts ask word job is asks there of in
    let one : seed ≡ ask.choice.seed = read-one number_of _ _ _ (subst (λ text. IsRead number_of text seed) is.seed seed_is) asks.seed in
    both_ways (can_seed ask.job) (sym (ap can_seed same) ∙ not) (asks.seeds (subst IsSome one some))
