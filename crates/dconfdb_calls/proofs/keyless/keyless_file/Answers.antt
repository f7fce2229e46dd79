use Rattle.std.proofs.Common.{◌∙◌, List, Some, ℕ, inr, refl, sym, subst}
use Rattle.dconf_model.proofs.PathMaps.{no_truth}
use Rattle.dconf_model.specs.Databases.{IsGood}
use Rattle.dconfdb_calls.proofs.KeylessLaws.{not_keyless}
use Rattle.dconfdb_calls.proofs.keyless.keyless_file.Goals as goal

pub returns-in_default-clause-fault : goal.returns-in_default-clause-fault
returns-in_default-clause-fault c = inr (refl, (λ mended h. c.in_default.ensures.none refl h.place h.is_place))

pub returns-else-is_sound-clause-fault : goal.returns-else-is_sound-clause-fault
returns-else-is_sound-clause-fault c = inr (
  refl,
  (λ mended h.
      not_keyless c.args.file.now c.in-Some.place c.in_ok-bytes.bytes.items mended c.in-Some.ensures.some c.in_ok-bytes.ensures.emptied
      (λ good. no_truth (sym c.if-is_sound.false ∙ c.is_sound.ensures.1 (subst (λ (b : List ℕ). IsGood (Some b)) (sym c.as_slice.ensures.value) good))) h),
)
