use Rattle.std.proofs.Common.{◌≡◌, sym, subst, List, ℕ, None, Result, Ok, Err, IsTrue}
use Rattle.std.specs.Result.{IsOk, result_ok}
use Rattle.std.proofs.lemmas.Bool.{true≢false}
use Rattle.dconf_model.specs.Paths.{is_key_path}
use Rattle.dconf_engine.specs.Unsaved.{edit_bytes}
use Rattle.dconf_engine.proofs.TextMapLaws.{rest_at_keys, first_at_key}
use Rattle.dconf_engine.proofs.changes.ChangesLeftIterator.next.Goals as goal

pub invariant_of-self : goal.invariant_of-self
invariant_of-self c = record { are_paths = rest_at_keys edit_bytes c.args.self.now.rest c.next.new.self c.next.result c.next.ensures.steps c.args.self.now.are_paths }

not_refused : {X E : Type 0} (read : Result X E) → IsOk read → None ≡ result_ok read → ⊥
not_refused (Ok x) ok none = cc
not_refused (Err e) ok none = true≢false (sym ok)

pub returns-in_err-path-2-clause-steps : goal.returns-in_err-path-2-clause-steps
returns-in_err-path-2-clause-steps c =
    let is = first_at_key edit_bytes c.args.self.now.rest c.next.new.self c.in_ok-path.path.now c.in_ok-path.edit.now c.in_ok-path.ensures.steps c.args.self.now.are_paths in
    absurd (not_refused c.parse.result (c.parse.ensures.accepts.1 (subst (λ (p : List ℕ). IsTrue (is_key_path p)) (sym c.as_str.ensures.value) is)) c.in_err-path-2.ensures.value)
