-- What C lends of an edit, and what is seen beside it.
use Rattle.std.specs.Prelude.{IfSome, IsSome, ◌↔◌, option_map}
use Rattle.std.proofs.Common.{◌≡◌, ◌∙◌, ◌&&◌, ℕ, Bool, true, false, List, Option, Some, None, is_some, cond, ap, sym, refl}
use Rattle.std.specs.Str.{is_utf8}
use Rattle.std.proofs.lemmas.Bool.{and_parts}
use Rattle.std.proofs.lemmas.Str.{IsUtf8-from_is_utf8, is_utf8-from_IsUtf8}
use Rattle.gv_model.specs.Decode.{decode}
use Rattle.gv_model.specs.Tree.{Tree}
use Rattle.gv_model.specs.TypeText.{is_type, type_at}
use Rattle.gv_view.specs.Views.{value, view_bytes, view_ty}
use Rattle.gv_view.specs.declared.view.View.{View}
use Rattle.dconf_model.specs.Layers.{Layers, visible, without_user}
use Rattle.dconf_model.specs.Stores.Saying.{silent, unset, sets}
use Rattle.dconf_model.proofs.ParentLaws.{by_bool}
use Rattle.dconf_model.proofs.PathMaps.{no_truth}
use Rattle.dconf_seen.specs.Waiting.{fits_all, found_at, may_write, past, seen_as, shown_as, shown_by, word_numbered}
use Rattle.dconf_seen.specs.declared.seen.Shown.{Shown}
use Rattle.dconf_seen.specs.declared.seen.Shown.TheVariants.{Stored, Default, Edit}
use Rattle.dconf_seen.specs.declared.seen.Word.{Word}
use Rattle.dconf_seen.specs.declared.seen.Word.TheVariants.{Silent, Unset, Sets}
use Rattle.dconf_seen.proofs.SeenLaws.{seen_is_found}
use Rattle.dconf_told.specs.Seeing.{edit_value, is_of, layers_in, or_unset, shown_to}
use Rattle.dconf_told.specs.Types.{SpellsType, value_for}
use Rattle.dconf_told.specs.declared.seen.DconfdbView.{DconfdbView}

-- ---- the value of an edit

pub value_of_text : (of bytes : List ℕ) (r : Option View) → IsSome r ↔ SpellsType of → IfSome r (λ v. view_ty v ≡ type_at of) → IfSome r (λ v. view_bytes v ≡ bytes) →
    option_map value r ≡ cond (is_utf8 of && is_type of) (Some (decode (type_at of) bytes)) None
value_of_text of bytes None h t b =
    by_bool (is_utf8 of && is_type of) (None ≡ cond (is_utf8 of && is_type of) (Some (decode (type_at of) bytes)) None)
    (λ both. let p = and_parts (is_utf8 of) (is_type of) both in absurd (no_truth (h.1 (IsUtf8-from_is_utf8 of p.0, p.1))))
    (λ other. sym (ap (λ x. cond x (Some (decode (type_at of) bytes)) None) other))
value_of_text of bytes (Some v) h t b =
    let spells = h.0 refl in
    let both : (is_utf8 of && is_type of) ≡ true = rw (is_utf8-from_IsUtf8 of spells.0, spells.1) refl in
    (λ i. Some (decode (t i) (b i))) ∙ sym (ap (λ x. cond x (Some (decode (type_at of) bytes)) None) both)

pub some_value : (r : Option View) → is_some r ≡ is_some (option_map value r)
some_value None = refl
some_value (Some v) = refl

-- ---- what is found

-- the stored value, what there is without the user's, or the edit's
abbrev value_there : Shown → Layers → List ℕ → Option Tree → Option Tree
value_there Stored l path edit = visible l path
value_there Default l path edit = visible (without_user l) path
value_there Edit l path edit = edit

module _ (l : Layers) (path : List ℕ) where
  abbrev there : Shown → Option Tree → Option Tree
  there shown edit = value_there shown l path edit

  beside_none : (edit : Option Tree) (may e stored : Bool) → there (past e stored (shown_by Silent may)) edit ≡ found_at (past e stored (shown_by Silent may)) l silent path
  beside_none edit may e true = refl
  beside_none edit may e false = refl

  beside_reset : (edit : Option Tree) (may e stored : Bool) → there (past e stored (shown_by Unset may)) edit ≡ found_at (past e stored (shown_by Unset may)) l unset path
  beside_reset edit true e stored = refl
  beside_reset edit false e true = refl
  beside_reset edit false e false = refl

  beside_value : (v : Tree) (may e stored : Bool) → there (past e stored (shown_by Sets may)) (Some v) ≡ found_at (past e stored (shown_by Sets may)) l (sets v) path
  beside_value v true true stored = refl
  beside_value v true false stored = refl
  beside_value v false e true = refl
  beside_value v false e false = refl

  pub seen_there : (fits : Tree → Bool) (waits : Bool) (edit : Option Tree) →
      there (shown_as (word_numbered waits (is_some edit)) (may_write l path) (fits_all fits edit) (fits_all fits (visible l path))) edit
      ≡ seen_as fits l (cond waits (or_unset edit) silent) path
  seen_there fits false edit =
      beside_none edit (may_write l path) (fits_all fits edit) (fits_all fits (visible l path))
      ∙ seen_is_found fits l silent path true (fits_all fits (visible l path)) refl refl
  seen_there fits true None =
      beside_reset None (may_write l path) true (fits_all fits (visible l path))
      ∙ seen_is_found fits l unset path true (fits_all fits (visible l path)) refl refl
  seen_there fits true (Some v) =
      beside_value v (may_write l path) (fits v) (fits_all fits (visible l path))
      ∙ seen_is_found fits l (sets v) path (fits v) (fits_all fits (visible l path)) refl refl

-- ---- what is stored is looked up late

-- whether it fits is asked after all else
past_twice : (e stored : Bool) (shown : Shown) → past true stored (past e true shown) ≡ past e stored shown
past_twice e stored Stored = refl
past_twice e stored Default = refl
past_twice true stored Edit = refl
past_twice false stored Edit = refl

for_stored : (fits : Tree → Bool) (l : Layers) (path : List ℕ) (edit : Option Tree) (shown : Shown) →
    value_for fits shown l path edit ≡ value_there (past true (fits_all fits (visible l path)) shown) l path edit
for_stored fits l path edit Stored = go (fits_all fits (visible l path))
  where
    go : (b : Bool) → cond b (visible l path) (visible (without_user l) path) ≡ value_there (cond b Stored Default) l path edit
    go true = refl
    go false = refl
for_stored fits l path edit Default = refl
for_stored fits l path edit Edit = refl

-- where nothing waits it isn't asked who may write
silent_counts : (waits some may : Bool) → shown_by (word_numbered waits some) (waits && may) ≡ shown_by (word_numbered waits some) may
silent_counts true some may = refl
silent_counts false some may = refl

-- the same of what was looked up and asked
pub shown_there : (text : List ℕ) (s : DconfdbView) (path : List ℕ) (l : Layers) (shown : Shown) (word : Word) (counts some edit_fits : Bool) (edit : Option Tree) →
    l ≡ layers_in s → edit ≡ edit_value s.edit → some ≡ is_some edit → word ≡ word_numbered s.edit.waits some → counts ≡ (s.edit.waits && may_write l path) →
    edit_fits ≡ fits_all (is_of text) edit → shown ≡ shown_as word counts edit_fits true →
    value_for (is_of text) shown l path edit ≡ shown_to text s path
shown_there text s path l shown word counts some edit_fits edit l_is edit_is some_is word_is counts_is edit_fits_is shown_is =
    let stored = fits_all (is_of text) (visible l path) in
    let fits = fits_all (is_of text) edit in
    let words : word ≡ word_numbered s.edit.waits (is_some edit) = word_is ∙ ap (word_numbered s.edit.waits) some_is in
    let is = shown_is ∙ (λ i. shown_as (words i) (counts_is i) (edit_fits_is i) true) in
    let late : past true stored shown ≡ shown_as (word_numbered s.edit.waits (is_some edit)) (may_write l path) fits stored =
    ap (past true stored) is
    ∙ (past_twice fits stored (shown_by (word_numbered s.edit.waits (is_some edit)) (s.edit.waits && may_write l path))
    ∙ ap (past fits stored) (silent_counts s.edit.waits (is_some edit) (may_write l path))) in
    for_stored (is_of text) l path edit shown
    ∙ (ap (λ (shown : Shown). value_there shown l path edit) late
    ∙ (seen_there l path (is_of text) s.edit.waits edit ∙ (λ i. seen_as (is_of text) (l_is i) (cond s.edit.waits (or_unset (edit_is i)) silent) path)))
