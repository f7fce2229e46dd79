-- The empty database has a plan, and so a length: 68 bytes.
use Rattle.std.proofs.Common.{◌≡◌, ◌<◌, ℕ, List, [], true, false, Option, Some, None, codes, refl, sym, ap, ◌∙◌, inl, inr, arith}
use Rattle.std.specs.Prelude.{IsTrue, is_some}
use Rattle.std.specs.FinMap.{get, contains_key, empty, get-empty}
use Rattle.std.specs.Cmp.Lexicographic.{slice_cmp}
use Rattle.std.specs.Ordering.{nat_cmp}
use Rattle.std.proofs.lemmas.Str.{IsUtf8-from_ascii}
use Rattle.std.proofs.lemmas.Option.{none-some}
use Rattle.gv_model.specs.Layout.{round_up}
use Rattle.dconf_model.specs.Settings.{Lock, no_settings}
use Rattle.dconf_model.specs.Entries.{Entry, Entries, Children, IsEntry}
use Rattle.dconf_model.specs.Plans.{Plan, IsPlanOf, IsRootName, HasLength}
use Rattle.dconf_model.specs.Plans.IsRootName.{top, key, directory, locks}
use Rattle.dconf_model.proofs.PathLaws.{slash_is_ascii, slash_no_zero}

abbrev slash : Entry
slash = record { name = codes "/"; key = codes "/"; parent = None; kind = 76 }

abbrev one_entry : Entries
one_entry = record { count = 1; entry = λ _. slash }

abbrev no_entries : Entries
no_entries = record { count = 0; entry = λ _. slash }

abbrev no_children : Children
no_children = record { count = 0; child = λ _. 0; directory = λ _. 0; first = λ _. 0 }

abbrev plan : Plan
plan = record { root = one_entry; children = no_children; value = λ _. []; locks = no_entries }

nothing_at : (X : Type 0) (path : List ℕ) → IsTrue (contains_key (empty {X = X} {R = slice_cmp nat_cmp}) path) → ⊥
nothing_at X path h = let bad : false ≡ true = sym (ap (λ (o : Option X). is_some o) (get-empty (slice_cmp nat_cmp) path)) ∙ h in cc

no_bytes : (path bytes : List ℕ) → get no_settings.values path ≡ Some bytes → ⊥
no_bytes path bytes h = let bad : None ≡ Some bytes = sym (get-empty (slice_cmp nat_cmp) path) ∙ h in cc

root_name : (name : List ℕ) → IsRootName no_settings name → (i : ℕ) × (i < 1) × (codes "/" ≡ name)
root_name name (top e) = (0, omega arith, sym e)
root_name name (key k) = absurd (nothing_at (List ℕ) name k)
root_name name (directory path k d) = absurd (nothing_at (List ℕ) path k)
root_name name (locks e h) = absurd (nothing_at Lock h.0 h.1)

is_entry : IsEntry one_entry 0
is_entry = record {
  spelled = refl;
  some = omega arith;
  utf8 = IsUtf8-from_ascii (codes "/") slash_is_ascii;
  no_nul = λ h. slash_no_zero h.0 h.1 h.2;
  of_kind = inr (inl refl);
}

is_plan : IsPlanOf no_settings plan
is_plan = record {
  names = record {
    each = λ i l. top refl;
    all = root_name;
    ordered = λ i j l m. absurd (omega (arith, l, m));
  };
  entries = record { each = λ i l. record { spelled = refl; some = omega arith; utf8 = is_entry.utf8; no_nul = is_entry.no_nul; of_kind = is_entry.of_kind }; once = λ i j l m e. omega (arith, l, m) };
  places = λ i l. record { has_parent = inl (refl, refl); short = omega arith; child = λ k. inl refl };
  children = record {
    firsts = record { within = λ g l. omega arith; lesser = λ g i l m. absurd (omega (arith, m)) };
    children = λ k l. absurd (omega (arith, l));
    each = λ j p child. let bad : None ≡ Some p = child.1 in absurd (none-some p bad);
    once = λ k m l n e. absurd (omega (arith, l));
  };
  values = λ i l k. absurd (omega (arith, k));
  keys = λ path bytes h. absurd (no_bytes path bytes h);
  lock_names = record {
    each = λ i l. absurd (omega (arith, l));
    all = λ name n. absurd (nothing_at Lock name n);
    ordered = λ i j l m. absurd (omega (arith, m));
  };
  lock_entries = record { each = λ i l. absurd (omega (arith, l)); once = λ i j l m e. absurd (omega (arith, l)) };
  locks = λ i l. absurd (omega (arith, l));
}

has_length : HasLength no_settings 68
unfolding round_up
has_length = (plan, is_plan, refl)
