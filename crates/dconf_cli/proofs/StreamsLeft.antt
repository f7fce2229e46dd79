-- What is left on out and err of a text, and of a line.
use Rattle.std.proofs.Common.{◌≡◌, ◌⊎◌, inl, inr, ℕ, List, [], Option, Result, Ok, Err, length, refl, subst, sym, arith}
use Rattle.std.specs.Prelude.{OnErr, OnOk}
use Rattle.std.proofs.lemmas.List.{take_all}
use Rattle.dconf_model.specs.Outcomes.{done_output}
use Rattle.dconf_folders.specs.Failures.{IsOneMore}
use Rattle.dconf_streams.specs.declared.counted.Counted.{Counted}
use Rattle.dconf_streams.specs.Counted.{Grew, failures_of}
use Rattle.dconf_cli.specs.Outputs.{GrewByPart, Leaves, PrintsLine, PrintsText}
use Rattle.dconf_streams.proofs.TransferLaws.{Grew-nil}
use Rattle.dconf_streams.specs.Streams.{NoneFailed, one_more}

-- no count rises where nothing failed
pub not_rose : (old new : ℕ) → NoneFailed old new → IsOneMore old new → ⊥
not_rose old new none (inl one) = let same = none.same in omega arith
not_rose old new none (inr most) = let told = none.told in let is = most.1 in omega arith

not_one_more : (old new : ℕ) → NoneFailed old new → new ≡ one_more old → ⊥
not_one_more old new none is = let same = none.same in let told = none.told in omega arith

-- a first part is all, or none
all_of : {S : Type 0} (contents : S → Option (List ℕ)) (old new : Counted S) (bytes : List ℕ) → Grew contents old new bytes → GrewByPart contents old new bytes
all_of contents old new bytes h = (length bytes, subst (Grew contents old new) (sym (take_all (length bytes) bytes (omega arith))) h)

none_of : {S : Type 0} (contents : S → Option (List ℕ)) (c : Counted S) (bytes : List ℕ) → GrewByPart contents c c bytes
none_of contents c bytes = (0, Grew-nil contents c)

-- a line that was put on a stream
pub prints_line : {T F S : Type 0} (contents : S → Option (List ℕ)) (old new : Counted S) (put line : List ℕ) (result : Result T F) → put ≡ line
    → OnOk result (Grew contents old new put) → OnErr result (failures_of new ≡ one_more (failures_of old)) → OnErr result (GrewByPart contents old new put)
    → PrintsLine contents old new line
prints_line contents old new put line (Ok x) is written rose part = subst (PrintsLine contents old new) is (record {
  whole = λ _. written;
  part = all_of contents old new put written;
})
prints_line contents old new put line (Err e) is written rose part = subst (PrintsLine contents old new) is (record {
  whole = λ unfailed. absurd (not_one_more _ _ unfailed rose);
  part = part;
})

module _ {O E : Type 0} (contents : O → Option (List ℕ)) (err_contents : E → Option (List ℕ)) where
  pub leaves_text : (out_old out_new : Counted O) (err : Counted E) (text : List ℕ) (status : ℕ) → PrintsText contents out_old out_new text status
      → Leaves contents err_contents out_old out_new err err (done_output text) status
  leaves_text out_old out_new err text status prints = go prints.ends
    where
      go : ((status ≡ 0) × Grew contents out_old out_new text × (failures_of out_new ≡ failures_of out_old)) ⊎ ((status ≡ 1) × GrewByPart contents out_old out_new text × (failures_of out_new ≡ one_more (failures_of out_old)))
          → Leaves contents err_contents out_old out_new err err (done_output text) status
      go (inl written) = record {
        out = λ _. (written.1, written.0);
        err = λ _ _. Grew-nil err_contents err;
        failing = λ rose. absurd (rose written.2);
        out_part = all_of contents out_old out_new text written.1;
        err_part = none_of err_contents err [];
        refused = λ e. cc;
        silent = prints.nothing;
        done = λ _. (refl, written.2);
        within = let is = written.0 in omega arith;
      }
      go (inr failing) = record {
        out = λ unfailed. absurd (not_one_more _ _ unfailed failing.2);
        err = λ _ _. Grew-nil err_contents err;
        failing = λ _. (failing.0, refl);
        out_part = failing.1;
        err_part = none_of err_contents err [];
        refused = λ e. cc;
        silent = prints.nothing;
        done = λ zero. let is = failing.0 in absurd (omega arith);
        within = let is = failing.0 in omega arith;
      }

  pub leaves_line : (out : Counted O) (err_old err_new : Counted E) (line : List ℕ) (status : ℕ) → status ≡ 1
      → PrintsLine err_contents err_old err_new line
      → Leaves contents err_contents out out err_old err_new (record { out = []; err = line; status = 1 }) status
  leaves_line out err_old err_new line status is printed = record {
    out = λ _. (Grew-nil contents out, is);
    err = λ _ unfailed. printed.whole unfailed;
    failing = λ rose. absurd (rose refl);
    out_part = none_of contents out [];
    err_part = printed.part;
    refused = λ _. (is, refl);
    silent = λ _. (is, refl);
    done = λ zero. absurd (omega arith);
    within = omega arith;
  }
