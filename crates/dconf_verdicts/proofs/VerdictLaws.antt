-- What holds of a change that is asked for, and of a fault.
use Rattle.std.proofs.Common.{◌≡◌, ◌⊎◌, ◌↔◌, Bool, true, false, not, List, [], ◌∷◌, refl, inl, inr}
use Rattle.std.specs.Prelude.{if◌then◌else◌}
use Rattle.std.specs.List.{list_any}
use Rattle.dconf_verdicts.specs.declared.entry.NewEdit.{NewEdit}
use Rattle.dconf_verdicts.specs.declared.entry.Entry.{Entry}
use Rattle.dconf_verdicts.specs.declared.entry.Entry.TheVariants.{Refused, Empty, Renews, Asks, Waits}
use Rattle.dconf_verdicts.specs.declared.faults.FaultClass.{FaultClass}
use Rattle.dconf_verdicts.specs.declared.faults.FaultClass.TheVariants.{Own, Soon, Later}
use Rattle.dconf_verdicts.specs.Entries.{is_barred, goes, is_news, has_twin, renews, IsKept, NewestIsKept}
use Rattle.dconf_verdicts.specs.declared.faults.ChangeFault.TheVariants.{Locked, Unfit, TooLarge, Host, Memory, Busy}
use Rattle.dconf_verdicts.specs.Faults.{class_of, Passes, EachIsOne, by_class, Drops, OnlyFinalDrops}

-- ---- a change that is asked for

abbrev by : Bool → Bool → Bool → Bool → Entry
by barred some news renewing = if barred then Refused else if not some then Empty else if news then Waits else if renewing then Renews else Asks

refused_if : (barred some news renewing : Bool) → by barred some news renewing ≡ Refused → barred ≡ true
refused_if true some news renewing e = refl
refused_if false false news renewing e = cc
refused_if false true true renewing e = cc
refused_if false true false true e = cc
refused_if false true false false e = cc

if_refused : (barred some news renewing : Bool) → barred ≡ true → by barred some news renewing ≡ Refused
if_refused true some news renewing e = refl
if_refused false some news renewing e = cc

kept_if : (barred some news renewing : Bool) → barred ≡ false → some ≡ true → IsKept (by barred some news renewing)
kept_if true some news renewing e f = absurd (let bad : true ≡ false = e in cc)
kept_if false false news renewing e f = absurd (let bad : false ≡ true = f in cc)
kept_if false true true renewing e f = tt
kept_if false true false true e f = tt
kept_if false true false false e f = tt

renews_if : (barred some news renewing : Bool) → by barred some news renewing ≡ Renews → renewing ≡ true
renews_if true some news renewing e = cc
renews_if false false news renewing e = cc
renews_if false true true renewing e = cc
renews_if false true false true e = refl
renews_if false true false false e = cc

twin_of : (edits : List NewEdit) → renews edits ≡ true → (edit : NewEdit) × (edits ≡ edit ∷ []) × (has_twin edit ≡ true)
twin_of [] e = absurd (let bad : false ≡ true = e in cc)
twin_of (edit ∷ []) e = (edit, refl, e)
twin_of (edit ∷ other ∷ more) e = absurd (let bad : false ≡ true = e in cc)

pub newest_is_kept : NewestIsKept
newest_is_kept edits = record {
  refused = (refused_if (list_any is_barred edits) (list_any goes edits) (list_any is_news edits) (renews edits), if_refused (list_any is_barred edits) (list_any goes edits) (list_any is_news edits) (renews edits));
  kept = kept_if (list_any is_barred edits) (list_any goes edits) (list_any is_news edits) (renews edits);
  twin = λ e. twin_of edits (renews_if (list_any is_barred edits) (list_any goes edits) (list_any is_news edits) (renews edits) e);
}

-- ---- a fault

one_of : (c : FaultClass) → ((c ≡ Own) ⊎ Passes c) × (c ≡ Own → Passes c → ⊥)
one_of Own = (inl refl, λ e p. p)
one_of Soon = (inr tt, λ e p. cc)
one_of Later = (inr tt, λ e p. cc)

pub each_is_one : EachIsOne
each_is_one kind changes = one_of (class_of kind changes)

-- ---- a change that was not made

drops_by_class : (c : FaultClass) → Drops (by_class c) ↔ (c ≡ Own)
drops_by_class Own = (λ h. refl, λ e. tt)
drops_by_class Soon = (λ h. absurd h, λ e. cc)
drops_by_class Later = (λ h. absurd h, λ e. cc)

pub only_final_drops : OnlyFinalDrops
only_final_drops Locked = (λ h. tt, λ e. tt)
only_final_drops Unfit = (λ h. tt, λ e. tt)
only_final_drops TooLarge = (λ h. tt, λ e. tt)
only_final_drops (Host kind) = drops_by_class (class_of kind true)
only_final_drops Memory = (λ h. h, λ e. e)
only_final_drops Busy = (λ h. h, λ e. e)
