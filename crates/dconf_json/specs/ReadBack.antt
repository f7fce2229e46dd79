-- Laws: a reader of JSON finds in each line the tokens that it was written of, and so the texts.
use Rattle.std.specs.Prelude.{ℕ, List, Bool, Option}
use Rattle.dconf_model.specs.Layers.{Layers}
use Rattle.dconf_model.specs.Profiles.{Database}
use Rattle.dconf_json.specs.Compared.{key_tokens, lock_tokens}
use Rattle.dconf_json.specs.Explained.{explanation_tokens}
use Rattle.dconf_json.specs.Lines.{IsReadBack, members_tokens, names_tokens}
use Rattle.dconf_json.specs.Values.{value_tokens}

abbrev pub ValuesAreReadBack : Type 0
ValuesAreReadBack = (skips : Bool) (bytes : Option (List ℕ)) → IsReadBack (value_tokens skips bytes)

abbrev pub NamesAreReadBack : Type 0
NamesAreReadBack = (names : List (List ℕ)) → IsReadBack (names_tokens names)

abbrev pub MembersAreReadBack : Type 0
MembersAreReadBack = (skips : Bool) (rows : List (List ℕ × Option (List ℕ))) → IsReadBack (members_tokens skips rows)

abbrev pub ExplanationsAreReadBack : Type 0
ExplanationsAreReadBack = (databases : List Database) (l : Layers) (path : List ℕ) → IsReadBack (explanation_tokens databases l path)

abbrev pub KeysAreReadBack : Type 0
KeysAreReadBack = (l m : Layers) (path : List ℕ) → IsReadBack (key_tokens l m path)

abbrev pub LocksAreReadBack : Type 0
LocksAreReadBack = (is_new : Bool) (lock : List ℕ) → IsReadBack (lock_tokens is_new lock)
