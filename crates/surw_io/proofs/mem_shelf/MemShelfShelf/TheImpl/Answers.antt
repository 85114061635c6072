use Rattle.std.proofs.Common.{ℕ, List, Option, inl, inr, Some, is_some, length, take, ap, ◌∙◌}
use Rattle.std.proofs.lemmas.Result.{MatchResult-weaker, IfOk-weaker, on_err_weaker}
use Rattle.surw_io.specs.MemShelf.{ShelfState, entry, file_of}
use Rattle.surw_io.proofs.MadeRules.{more_ready}
use Rattle.surw_io.proofs.ShelfRules.{open_there, open_content, read_within, write_within, ReadsAlike, started_alike, wrote_alike, refused_alike}
use Rattle.surw_io.proofs.Results.{on_ok, on_err, either}
use Rattle.surw_io.proofs.mem_shelf.MemShelfShelf.TheImpl.Goals as goal

pub open-tells : goal.open-tells
open-tells c =
    let same = λ (other : List ℕ). ap (λ (shelf : ShelfState). Some (entry (file_of shelf.files other))) c.ensures.after in
    record {
      there = MatchResult-weaker c.result c.ensures.gives (λ _ e. open_there c.args.self.now c.args.name.now c.new.self.now.left e) (λ _ _. tt);
      left = MatchResult-weaker c.result c.ensures.gives (λ _ e. open_content c.args.self.now c.args.name.now c.new.self.now.left e) (λ _ _. tt);
      moves = on_ok c.result same;
      closed = on_err_weaker c.result (λ e. ap Some e) c.ensures.nothing;
      stays = on_err c.result same;
      stays_after = on_err c.result same;
      opens = ap (λ (shelf : ShelfState). shelf.opens) c.ensures.after;
      made = ap (λ (shelf : ShelfState). Some shelf.made) c.ensures.after;
      ready = ap (λ (shelf : ShelfState). is_some shelf.made.last) c.ensures.after;
      out_faults = ap (λ (shelf : ShelfState). shelf.out_faults) c.ensures.after;
      cause = record {
        never_falls = c.ensures.cause.never_falls;
        calm = c.ensures.cause.calm;
        rose = on_err_weaker c.result (λ why. elim why [ inl rose ↦ inl rose | inr none ↦ inr (ap (λ (file : Option (List ℕ)). Some (entry file)) none) ]) c.ensures.cause.rose;
      };
    }

pub read-tells : goal.read-tells
read-tells c =
    let same = λ (other : List ℕ). ap (λ (shelf : ShelfState). Some (entry (file_of shelf.files other))) c.ensures.after in
    record {
      within = MatchResult-weaker c.result c.ensures.gives (λ n e. read_within c.args.self.now (length c.args.into.now) n e) (λ _ _. tt);
      moved = IfOk-weaker c.result _ _ (λ n e. ap Some e) c.ensures.moved;
      rest = c.ensures.rest;
      end = c.ensures.end;
      kept = on_err_weaker c.result (λ e. ap Some e) c.ensures.kept;
      coming = same;
      coming_after = same;
      opens = ap (λ (shelf : ShelfState). shelf.opens) c.ensures.after;
      made = ap (λ (shelf : ShelfState). Some shelf.made) c.ensures.after;
      ready = ap (λ (shelf : ShelfState). is_some shelf.made.last) c.ensures.after;
      out_faults = ap (λ (shelf : ShelfState). shelf.out_faults) c.ensures.after;
      cause = c.ensures.cause;
    }

pub create-tells : goal.create-tells
create-tells c =
    let old = c.args.self.now in
    let told = λ (shelf : ShelfState). Some shelf.made in
    let ready = λ (shelf : ShelfState). is_some shelf.made.last in
    let reads : ReadsAlike old c.new.self.now =
    either c.result (MatchResult-weaker c.result c.ensures.after (λ _ e. started_alike old _ c.args.name.now e) (λ _ e. refused_alike old _ e)) in
    let same = λ (other : List ℕ). ap (λ (files : List (List ℕ × List ℕ)). Some (entry (file_of files other))) reads.files in
    record {
      made = MatchResult-weaker c.result c.ensures.after (λ _ e. ap told e) (λ _ _. tt);
      ready = MatchResult-weaker c.result c.ensures.after (λ _ e. ap ready e) (λ _ _. tt);
      kept = MatchResult-weaker c.result c.ensures.after (λ _ _. tt) (λ _ e. ap told e);
      as_ready = MatchResult-weaker c.result c.ensures.after (λ _ _. tt) (λ _ e. ap ready e);
      coming = same;
      coming_after = same;
      left = ap Some reads.left;
      opens = reads.opens;
      in_faults = reads.in_faults;
      cause = c.ensures.cause;
    }

pub write-tells : goal.write-tells
write-tells c =
    let old = c.args.self.now in
    let piece = c.args.piece.now in
    let told = λ (shelf : ShelfState). Some shelf.made in
    let ready = λ (shelf : ShelfState). is_some shelf.made.last in
    let reads : ReadsAlike old c.new.self.now =
    either c.result (MatchResult-weaker c.result c.ensures.after (λ n e. wrote_alike old _ (take n piece) e) (λ _ e. refused_alike old _ e)) in
    let same = λ (other : List ℕ). ap (λ (files : List (List ℕ × List ℕ)). Some (entry (file_of files other))) reads.files in
    record {
      within = MatchResult-weaker c.result c.ensures.gives (λ n e. write_within old (length piece) n e) (λ _ _. tt);
      some = c.ensures.some;
      made = MatchResult-weaker c.result c.ensures.after (λ _ e. ap told e) (λ _ _. tt);
      kept = MatchResult-weaker c.result c.ensures.after (λ _ _. tt) (λ _ e. ap told e);
      ready = either c.result (MatchResult-weaker c.result c.ensures.after (λ n e. ap ready e ∙ more_ready old.made (take n piece)) (λ _ e. ap ready e));
      coming = same;
      coming_after = same;
      left = ap Some reads.left;
      opens = reads.opens;
      in_faults = reads.in_faults;
      cause = c.ensures.cause;
    }
