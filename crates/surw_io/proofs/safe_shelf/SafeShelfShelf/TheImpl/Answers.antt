use Rattle.std.proofs.Common.{◌≡◌, ℕ, ◌<◌, List, [], Some, length, min, refl, ap, sym, ◌∙◌, ◌∷◌, arith}
use Rattle.std.proofs.lemmas.Result.{IfOk-weaker}
use Rattle.surw_io.specs.Content.{File}
use Rattle.surw_io.specs.SafeShelf.{TextsState}
use Rattle.surw_io.proofs.Results.{on_ok, on_err_none}
use Rattle.surw_io.proofs.safe_shelf.SafeShelfShelf.TheImpl.Goals as goal

-- where nothing is moved into some room, nothing is left
none_left : (room : ℕ) (left : List ℕ) → 0 < room → 0 ≡ min room (length left) → left ≡ []
none_left room [] some none = refl
none_left room (byte ∷ left) some none = absurd (omega arith)

pub open-tells : goal.open-tells
open-tells g c =
    let next = λ (other : List ℕ). ap (λ (texts : TextsState). Some (File texts.first)) c.ensures.after in
    record {
      there = on_ok c.result (λ e. cc);
      left = on_ok c.result (ap (λ (texts : TextsState). Some texts.left) c.ensures.after);
      moves = on_ok c.result next;
      closed = on_err_none c.result _ c.ensures.ok;
      stays = on_err_none c.result _ c.ensures.ok;
      stays_after = on_err_none c.result _ c.ensures.ok;
      opens = ap (λ (texts : TextsState). texts.opens) c.ensures.after;
      made = refl;
      ready = ap (λ (texts : TextsState). texts.ready) c.ensures.after;
      out_faults = refl;
      cause = record { never_falls = omega arith; calm = on_ok c.result refl; rose = on_err_none c.result _ c.ensures.ok };
    }

pub read-tells : goal.read-tells
read-tells g c =
    record {
      within = IfOk-weaker c.result _ _ (λ n e. omega (arith, e)) c.ensures.gives;
      moved = IfOk-weaker c.result _ _ (λ n e. ap Some e) c.ensures.moved;
      rest = c.ensures.rest;
      end = IfOk-weaker c.result _ _ (λ n e some none. none_left _ _ some (sym none ∙ e)) c.ensures.gives;
      kept = on_err_none c.result _ c.ensures.ok;
      coming = λ other. ap (λ (texts : TextsState). Some (File texts.first)) c.ensures.after;
      coming_after = λ other. ap (λ (texts : TextsState). Some (File texts.second)) c.ensures.after;
      opens = ap (λ (texts : TextsState). texts.opens) c.ensures.after;
      made = refl;
      ready = ap (λ (texts : TextsState). texts.ready) c.ensures.after;
      out_faults = refl;
      cause = record { never_falls = omega arith; calm = on_ok c.result refl; rose = on_err_none c.result _ c.ensures.ok };
    }

pub create-tells : goal.create-tells
create-tells g c =
    record {
      made = on_ok c.result refl;
      ready = on_ok c.result (ap (λ (texts : TextsState). texts.ready) c.ensures.after);
      kept = on_err_none c.result _ c.ensures.ok;
      as_ready = on_err_none c.result _ c.ensures.ok;
      coming = λ other. ap (λ (texts : TextsState). Some (File texts.first)) c.ensures.after;
      coming_after = λ other. ap (λ (texts : TextsState). Some (File texts.second)) c.ensures.after;
      left = ap (λ (texts : TextsState). Some texts.left) c.ensures.after;
      opens = ap (λ (texts : TextsState). texts.opens) c.ensures.after;
      in_faults = refl;
      cause = record { never_falls = omega arith; calm = on_ok c.result refl; rose = on_err_none c.result _ c.ensures.ok };
    }

pub write-tells : goal.write-tells
write-tells g c =
    record {
      within = IfOk-weaker c.result _ _ (λ n e. omega (arith, e)) c.ensures.gives;
      some = IfOk-weaker c.result _ _ (λ n e some. omega (arith, e, some)) c.ensures.gives;
      made = IfOk-weaker c.result _ _ (λ n e. refl) c.ensures.gives;
      kept = on_err_none c.result _ c.ensures.ok;
      ready = ap (λ (texts : TextsState). texts.ready) c.ensures.after;
      coming = λ other. ap (λ (texts : TextsState). Some (File texts.first)) c.ensures.after;
      coming_after = λ other. ap (λ (texts : TextsState). Some (File texts.second)) c.ensures.after;
      left = ap (λ (texts : TextsState). Some texts.left) c.ensures.after;
      opens = ap (λ (texts : TextsState). texts.opens) c.ensures.after;
      in_faults = refl;
      cause = record { never_falls = omega arith; calm = on_ok c.result refl; rose = on_err_none c.result _ c.ensures.ok };
    }
