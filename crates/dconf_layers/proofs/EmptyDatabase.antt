-- A database without items: it is sound, and says nothing.
use Rattle.std.proofs.Common.{◌≡◌, ℕ, List, [], ◌∷◌, None, refl, sym, ap, ◌∙◌, subst, arith, codes}
use Rattle.std.specs.FinMap.{from_entries}
use Rattle.dconf_model.specs.Table.{Table as Region}
use Rattle.dconf_model.specs.Table.{item_count, bucket_count}
use Rattle.dconf_model.specs.Names.{name_of}
use Rattle.dconf_model.specs.Opening.{IsDatabase, root_of}
use Rattle.dconf_model.specs.Searchable.{EachItem}
use Rattle.dconf_model.specs.Sound.{IsSound}
use Rattle.dconf_model.specs.Sound.Rule.{buckets, keys, chain, hash, span, bloom, once, content, place, lists, locks}
use Rattle.dconf_model.specs.Databases.{gathered, row_of_value, locks_of_item, settings_in}
use Rattle.dconf_model.specs.Settings.{no_settings}
use Rattle.dconf_model.proofs.RowLaws.{counted}
use Rattle.dconf_model.proofs.WorkedTables.{computing}
use Rattle.gvdb_read.specs.declared.table.Table.{Table}
use Rattle.gvdb_read.specs.Lookups.{IsTableAt}
use Rattle.gvdb_read.specs.Tables.{region}
use Rattle.dconf_layers.specs.SoundTables.{AreOfSoundDatabase}
use Rattle.dconf_layers.proofs.SoundLayers.{locks_at}

-- ---- any table without items

no_item : (t : Region) (P : ℕ → Type 0) → item_count t ≡ 0 → EachItem t P
no_item t P none i within = absurd (omega (arith, none, within))

-- ---- the empty database

unfoldable pub empty_file : List ℕ
empty_file =
    71 ∷ 86 ∷ 97 ∷ 114 ∷ 105 ∷ 97 ∷ 110 ∷ 116 ∷ 0 ∷ 0 ∷ 0 ∷ 0 ∷ 0 ∷ 0 ∷ 0 ∷ 0 ∷ 24 ∷ 0 ∷ 0 ∷ 0 ∷ 32 ∷ 0 ∷ 0 ∷ 0 ∷
    0 ∷ 0 ∷ 0 ∷ 0 ∷ 0 ∷ 0 ∷ 0 ∷ 0 ∷ []

empty : Region
empty = root_of empty_file

no_items : item_count empty ≡ 0
unfolding computing empty empty_file
no_items = refl

no_buckets : bucket_count empty ≡ 0
unfolding computing empty empty_file
no_buckets = refl

pub empty_opens : IsDatabase empty_file
unfolding computing empty_file
empty_opens = record {
  header = omega arith;
  signature = refl;
  version = refl;
  root = record { inside = omega arith; aligned = refl; head = omega arith };
  table = record { fit = omega arith; whole = refl };
}

empty_is_sound : IsSound empty
empty_is_sound buckets = record {
  some = λ h. let e = no_items in absurd (omega (arith, e, h));
  from_zero = λ h. let e = no_buckets in absurd (omega (arith, e, h));
  rising = λ b h. let e = no_buckets in absurd (omega (arith, e, h));
  counted = λ b h. let e = no_buckets in absurd (omega (arith, e, h));
}
empty_is_sound keys = no_item empty _ no_items
empty_is_sound chain = no_item empty _ no_items
empty_is_sound hash = no_item empty _ no_items
empty_is_sound span = no_item empty _ no_items
empty_is_sound bloom = no_item empty _ no_items
empty_is_sound once = no_item empty _ no_items
empty_is_sound content = no_item empty _ no_items
empty_is_sound place = no_item empty _ no_items
empty_is_sound lists = no_item empty _ no_items
empty_is_sound locks = no_item empty _ no_items

no_locks : (u : Region) → ¬ IsTableAt empty (codes ".locks") u
no_locks u h = let e = no_items in let within = counted empty h.0 (codes ".locks") (locks_at empty u empty_is_sound h).named in absurd (omega (arith, e, within))

settings_in_empty : settings_in empty_file ≡ no_settings
unfolding empty
settings_in_empty = λ i. record {
  values = from_entries (gathered (λ k. row_of_value empty k (name_of empty k)) (no_items i));
  locks = from_entries (gathered (λ k. locks_of_item empty k (name_of empty k)) (no_items i));
}

-- what opens it is of a sound database, which says nothing
pub empty_tables : (values : Table) → region values ≡ root_of empty_file → AreOfSoundDatabase values None
unfolding empty
empty_tables values e =
    let file : (region values).file ≡ empty_file = ap (λ (t : Region). t.file) e in
    record {
      opens = subst IsDatabase (sym file) empty_opens;
      root = e ∙ ap root_of (sym file);
      sound = subst IsSound (sym e) empty_is_sound;
      locks_are = λ u. subst (λ (t : Region). ¬ IsTableAt t (codes ".locks") u) (sym e) (no_locks u);
    }

pub empty_settings : (values : Table) → region values ≡ root_of empty_file → settings_in (region values).file ≡ no_settings
empty_settings values e = ap (λ (t : Region). settings_in t.file) e ∙ settings_in_empty
