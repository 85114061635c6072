use Rattle.std.proofs.Common.{ℕ, List, Option, inl, inr, is_some, refl, ap}
use Rattle.std.proofs.lemmas.Result.{IfOk-weaker, on_err_weaker}
use Rattle.surw_io.proofs.Results.{on_ok, on_err}
use Rattle.surw_io.proofs.file_shelf.FileShelfShelf.TheImpl.Goals as goal

pub open-tells : goal.open-tells
open-tells g c =
    record {
      there = on_ok c.result (λ e. cc);
      left = on_ok c.result refl;
      moves = on_ok c.result (λ other. refl);
      closed = on_err c.result refl;
      stays = on_err c.result (λ other. refl);
      stays_after = on_err c.result (λ other. refl);
      opens = c.ensures.opens;
      made = refl;
      ready = ap (λ (target : Option (Option (List ℕ))). is_some target) c.ensures.target;
      out_faults = c.ensures.out_faults;
      cause = record {
        never_falls = c.ensures.cause.never_falls;
        calm = c.ensures.cause.calm;
        rose = on_err_weaker c.result (λ why. elim why [ inl rose ↦ inl rose | inr none ↦ absurd none ]) c.ensures.cause.rose;
      };
    }

pub read-tells : goal.read-tells
read-tells g c =
    record {
      within = c.ensures.within;
      moved = IfOk-weaker c.result _ _ (λ n e. refl) c.ensures.within;
      rest = c.ensures.rest;
      end = IfOk-weaker c.result _ _ (λ n e some none. tt) c.ensures.within;
      kept = on_err c.result refl;
      coming = λ other. refl;
      coming_after = λ other. refl;
      opens = c.ensures.opens;
      made = refl;
      ready = ap (λ (target : Option (Option (List ℕ))). is_some target) c.ensures.target;
      out_faults = c.ensures.out_faults;
      cause = c.ensures.cause;
    }

pub create-tells : goal.create-tells
create-tells g c =
    record {
      made = on_ok c.result refl;
      ready = c.ensures.target;
      kept = on_err c.result refl;
      as_ready = on_err_weaker c.result (λ e. ap (λ (target : Option (Option (List ℕ))). is_some target) e) c.ensures.kept;
      coming = λ other. refl;
      coming_after = λ other. refl;
      left = refl;
      opens = c.ensures.reads.1;
      in_faults = c.ensures.reads.2;
      cause = c.ensures.cause;
    }

pub write-tells : goal.write-tells
write-tells g c =
    record {
      within = c.ensures.within;
      some = c.ensures.some;
      made = IfOk-weaker c.result _ _ (λ n e. refl) c.ensures.within;
      kept = on_err c.result refl;
      ready = c.ensures.target;
      coming = λ other. refl;
      coming_after = λ other. refl;
      left = refl;
      opens = c.ensures.reads.1;
      in_faults = c.ensures.reads.2;
      cause = c.ensures.cause;
    }
