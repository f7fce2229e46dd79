-- Changes that are made one after another.
use Rattle.std.proofs.Common.{◌≡◌, ◌+◌, ◌<◌, ◌++◌, ◌∷◌, [], ◌∙◌, ℕ, List, Ok, ap, sym, subst, refl, length, take, get_or}
use Rattle.std.proofs.lemmas.List.{take_more}
use Rattle.std.proofs.lemmas.Option.{slice_get-get_or}
use Rattle.dconf_model.specs.Changes.{Change, apply}
use Rattle.dconf_model.specs.Changes.Change.{set_value, reset_value, reset_below_directory, load_values}
use Rattle.dconf_model.specs.Layers.{Layers}
use Rattle.dconf_model.specs.Stores.{IsWholeChange}
use Rattle.dconfdb_calls.specs.declared.changes.DconfdbChange.{DconfdbChange}
use Rattle.dconfdb_calls.specs.declared.fault.Fault.{Fault}
use Rattle.dconfdb_calls.specs.declared.fault.Fault.TheVariants.{Memory, Short, BadSignature, BadVersion, BadRoot, BadTable, Unsound, NotText, BadLine, ServiceDb, UserNotFirst, TooMany, BadPath, BadType, NotWritable, Locked, TooLarge, TooBig, BadValue}
use Rattle.dconfdb_calls.specs.Changed.{AreMadeInTurn, IsChangeRefused, IsChangedInVain, IsNoChange, IsRefusedFor, SetsNormal, at_of, change_meant}

one_more : (cs : List DconfdbChange) (c : DconfdbChange) (l m n : Layers) → AreMadeInTurn cs l m → IsWholeChange (change_meant c) → SetsNormal c → apply m (change_meant c) ≡ Ok n → AreMadeInTurn (cs ++ c ∷ []) l n
one_more [] c l m n same whole normal e = (n, whole, normal, ap (λ (x : Layers). apply x (change_meant c)) same ∙ e, refl)
one_more (d ∷ cs) c l m n h whole normal e = (h.0, h.1, h.2, h.3, one_more cs c h.0 m n h.4 whole normal e)

pub changed_more : (cs : List DconfdbChange) (i : ℕ) (d : DconfdbChange) (l m n : Layers) → i < length cs → AreMadeInTurn (take i cs) l m →
    IsWholeChange (change_meant (get_or cs i d)) → SetsNormal (get_or cs i d) → apply m (change_meant (get_or cs i d)) ≡ Ok n → AreMadeInTurn (take (i + 1) cs) l n
changed_more cs i d l m n within h whole normal e =
    subst (λ (xs : List DconfdbChange). AreMadeInTurn xs l n) (sym (take_more cs i d within)) (one_more (take i cs) (get_or cs i d) l m n h whole normal e)

-- ---- the change that is refused

-- one change alone makes no database too big
never_big : (l : Layers) (change : Change) → ¬ IsChangedInVain l change TooBig
never_big l (set_value path v) h = h
never_big l (reset_value path) h = h
never_big l (reset_below_directory directory) h = h
never_big l (load_values rows force) h = h

pub refused_at : (cs : List DconfdbChange) (i : ℕ) (d : DconfdbChange) (l m : Layers) (fault : Fault) → i < length cs → AreMadeInTurn (take i cs) l m → IsRefusedFor m (get_or cs i d) fault →
    IsNoChange l cs fault (at_of fault i)
refused_at cs i d l m fault within h why = go fault why
  where
    at : (f : Fault) → IsRefusedFor m (get_or cs i d) f → IsChangeRefused l cs i f
    at f r = record { before = m; changed = h; change = get_or cs i d; is = slice_get-get_or cs i d within; refused = r }

    go : (f : Fault) → IsRefusedFor m (get_or cs i d) f → IsNoChange l cs f (at_of f i)
    go Memory r = refl
    go TooBig r = absurd (never_big m (change_meant (get_or cs i d)) r)
    go Short r = at Short r
    go BadSignature r = at BadSignature r
    go BadVersion r = at BadVersion r
    go BadRoot r = at BadRoot r
    go BadTable r = at BadTable r
    go Unsound r = at Unsound r
    go NotText r = at NotText r
    go BadLine r = at BadLine r
    go ServiceDb r = at ServiceDb r
    go UserNotFirst r = at UserNotFirst r
    go TooMany r = at TooMany r
    go BadPath r = at BadPath r
    go BadType r = at BadType r
    go NotWritable r = at NotWritable r
    go Locked r = at Locked r
    go TooLarge r = at TooLarge r
    go BadValue r = at BadValue r
