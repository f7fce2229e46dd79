-- A worked store: its value is read off the law of all stores, with no law of maps.
use Rattle.std.specs.Prelude.{◌≡◌, ℕ, List, [], ◌∷◌, Some, None, codes, refl, true}
use Rattle.std.proofs.Common.{arith}
use Rattle.gv_model.specs.Tree.{depth}
use Rattle.gv_model.specs.Encode.{encode, packed, number_bytes}
use Rattle.gv_model.specs.Tree.Tree.{number}
use Rattle.gv_model.specs.Ty.{nesting, spelling}
use Rattle.gv_model.specs.Ty.Basic.{int32}
use Rattle.dconf_model.specs.Settings.{no_settings}
use Rattle.dconf_model.specs.Layers.{Layers, visible}
use Rattle.dconf_model.specs.Changes.{Change, run}
use Rattle.dconf_model.specs.Changes.Change.{set_value}
use Rattle.dconf_model.specs.Stores.{IsLimitedValue, IsOpenedStore, DidDeeds, nothing_given}
use Rattle.dconf_model.specs.Stores.Deed.{changed}
use Rattle.dconf_model.proofs.DatabasesGiven.{missing_gives_nothing}
use Rattle.dconf_model.proofs.StoreValues.{each_value_is_given}

abbrev pub k : List ℕ
k = codes "/a/k"

abbrev opened : Layers
opened = record { layers = no_settings ∷ []; writable = true }

abbrev change : Change
change = set_value k (number int32 5)

abbrev after : Layers
after = run opened (change ∷ [])

five_is_whole : IsLimitedValue (number int32 5)
unfolding nesting spelling
five_is_whole = (omega arith, refl)

store_is : IsOpenedStore None [] nothing_given [] opened
store_is = record { layers = (refl, tt); gives = (missing_gives_nothing, tt) }

store_did : DidDeeds [] opened (changed change ∷ []) after
unfolding depth encode packed number_bytes spelling
store_did = (after, (five_is_whole, refl), refl)

written_is_seen : visible after k ≡ Some (number int32 5)
written_is_seen = each_value_is_given None [] nothing_given [] opened after (changed change ∷ []) k store_is store_did
