-- Changes that are there already, made in order, leave each value as it is.
use Rattle.std.specs.Prelude.{Contains, slice_get, option_and_then, is_some, filter}
use Rattle.std.specs.FinMap.{get, keys}
use Rattle.std.specs.Str.{bytes_eq}
use Rattle.std.proofs.Common.{◌≡◌, ◌∙◌, ◌∷◌, [], ◌&&◌, ◌==◌, ℕ, zero, suc, Bool, true, false, List, Option, Some, None, cond, refl, sym, ap, ap₂, subst}
use Rattle.std.proofs.lemmas.List.Elements.{Contains-append_left}
use Rattle.gv_model.specs.Tree.{Tree}
use Rattle.dconf_model.specs.Bytes.{MaybeBytes}
use Rattle.dconf_model.specs.Changes.{Change}
use Rattle.dconf_model.specs.Changes.Change.{set_value, reset_value, reset_below_directory}
use Rattle.dconf_model.specs.Layers.{Layers, all_paths}
use Rattle.dconf_model.specs.Locks.{is_below}
use Rattle.dconf_model.specs.Paths.{ends_with_slash}
use Rattle.dconf_model.specs.Settings.{Settings}
use Rattle.dconf_model.specs.Sources.{Given, last_value}
use Rattle.dconf_model.specs.Stores.{OwnValues, Saying, StoreHolds, heard, level_given, own_changed, saying_of}
use Rattle.dconf_model.specs.Stores.Saying.{silent, unset, sets}
use Rattle.dconf_model.specs.Values.{held_value}
use Rattle.dconf_model.specs.Walks.{keys_below}
use Rattle.dconf_model.proofs.ListingOrder.{find_text, found_text}
use Rattle.dconf_model.proofs.Listings.{listing_has, none_of_none}
use Rattle.dconf_model.proofs.ParentLaws.{by_bool}
use Rattle.dconf_model.proofs.SameBytes.{same_path}
use Rattle.dconf_model.proofs.StoreListings.{key_of}
use Rattle.dconf_model.proofs.StoreValues.{after_change, opened_holds, origin_seen, value_seen}
use Rattle.dconf_layers.proofs.PathTests.{any_passing}
use Rattle.dconfdb_calls.specs.Changed.{AreMadeInTurn, change_meant, value_of}
use Rattle.dconfdb_calls.specs.Stored.{own_value}
use Rattle.dconfdb_calls.specs.declared.changes.DconfdbChange.{DconfdbChange}
use Rattle.dconf_made.specs.Made.{AreMade, EachIsThereAlready, FirstHas, HasAs, HavePaths, IsPathAs}

-- ---- one change

-- what is said of a path is there
abbrev Stays : Settings → List ℕ → Saying → Type 0
Stays s p word = heard (own_value s p) word ≡ own_value s p

no_value : (s : Settings) (p : List ℕ) → get s.values p ≡ None → own_value s p ≡ None
no_value s p e = ap (λ (o : Option (List ℕ)). option_and_then held_value o) e

in_filter : (f : List ℕ → Bool) (texts : List (List ℕ)) (text : List ℕ) → Contains texts text → f text ≡ true → Contains (filter f texts) text
in_filter f texts text there e = found_text text (filter f texts) (any_passing text f texts ∙ ap₂ (λ a b. a && b) e (find_text text texts there))

no_key_below : (s : Settings) (directory p : List ℕ) → keys_below (all_paths (s ∷ [])) directory ≡ [] → is_below p directory ≡ true → get s.values p ≡ None
no_key_below s directory p none below = go (get s.values p) refl
  where
    go : (o : Option (List ℕ)) → get s.values p ≡ o → o ≡ None
    go None e = refl
    go (Some bytes) e =
        let there = Contains-append_left (keys s.values) (all_paths []) p (key_of s.values p (ap is_some e)) in
        let listed = listing_has (filter (λ path. is_below path directory) (all_paths (s ∷ []))) p (in_filter (λ path. is_below path directory) (all_paths (s ∷ [])) p there below) in
        absurd (none_of_none p (subst (λ (ts : List (List ℕ)). Contains ts p) none listed))

abbrev meant : Bool → Bool → DconfdbChange → Change
meant true dir c = set_value c.path.now (value_of c)
meant false true c = reset_below_directory c.path.now
meant false false c = reset_value c.path.now

is_meant : (does dir : Bool) (c : DconfdbChange) → cond does (set_value c.path.now (value_of c)) (cond dir (reset_below_directory c.path.now) (reset_value c.path.now)) ≡ meant does dir c
is_meant true dir c = refl
is_meant false true c = refl
is_meant false false c = refl

stays : (does dir : Bool) (s : Settings) (c : DconfdbChange) (p : List ℕ) → HasAs does dir s c → IsPathAs does dir c.path.now → Stays s p (saying_of p (meant does dir c))
stays true dir s c p h good =
    by_bool (bytes_eq c.path.now p) (Stays s p (cond (bytes_eq c.path.now p) (sets (value_of c)) silent))
    (λ e. subst (λ (b : Bool). Stays s p (cond b (sets (value_of c)) silent)) (sym e) (sym (ap (λ (q : List ℕ). own_value s q) (sym (same_path c.path.now p e)) ∙ h.is)))
    (λ e. subst (λ (b : Bool). Stays s p (cond b (sets (value_of c)) silent)) (sym e) refl)
stays false true s c p h good =
    by_bool (is_below p c.path.now) (Stays s p (cond (is_below p c.path.now) unset silent))
    (λ e. subst (λ (b : Bool). Stays s p (cond b unset silent)) (sym e) (sym (no_value s p (no_key_below s c.path.now p (h good) e))))
    (λ e. subst (λ (b : Bool). Stays s p (cond b unset silent)) (sym e) refl)
stays false false s c p h good =
    by_bool (bytes_eq c.path.now p) (Stays s p (cond (bytes_eq c.path.now p) unset silent))
    (λ e. subst (λ (b : Bool). Stays s p (cond b unset silent)) (sym e)
    (sym (no_value s p (ap (λ (q : List ℕ). get s.values q) (sym (same_path c.path.now p e)) ∙ h good))))
    (λ e. subst (λ (b : Bool). Stays s p (cond b unset silent)) (sym e) refl)

-- ---- all, in order

-- the user has what a change says of each path
abbrev Quiet : OwnValues → DconfdbChange → Type 0
Quiet own c = (p : List ℕ) → heard (own p) (saying_of p (change_meant c)) ≡ own p

either : {X : Type 0} (b : Bool) (x y : X) → x ≡ y → cond b x y ≡ y
either true x y e = e
either false x y e = refl

same_own : (gs : List Given) (own : OwnValues) (c : DconfdbChange) → Quiet own c → own_changed gs own (change_meant c) ≡ own
same_own gs own c quiet = λ i path. either (level_given 1 gs path == 0) (heard (own path) (saying_of path (change_meant c))) (own path) (quiet path) i

module _ (others : List MaybeBytes) (own : OwnValues) (gs : List Given) where
  holds : (cs : List DconfdbChange) (l m : Layers) → StoreHolds others own gs l → ((i : ℕ) (c : DconfdbChange) → slice_get cs i ≡ Some c → Quiet own c) →
      AreMadeInTurn cs l m → StoreHolds others own gs m
  holds [] l m h quiet same = subst (StoreHolds others own gs) same h
  holds (c ∷ cs) l m h quiet made =
      let next = after_change others own gs l made.0 h (change_meant c) made.1 made.3 in
      let again = subst (λ (o : OwnValues). StoreHolds others o gs made.0) (same_own gs own c (quiet zero c refl)) next in
      holds cs made.0 m again (λ i d is. quiet (suc i) d is) made.4

  quiet_of : (l : Layers) (h : StoreHolds others own gs l) (c : DconfdbChange) → FirstHas l.layers c → IsPathAs c.sets (ends_with_slash c.path.now) c.path.now → Quiet own c
  quiet_of l h c has good p =
      let first : HasAs c.sets (ends_with_slash c.path.now) h.first c = subst (λ (ss : List Settings). FirstHas ss c) h.layers has in
      let said = stays c.sets (ends_with_slash c.path.now) h.first c p first good in
      let by_change = subst (λ (x : Change). Stays h.first p (saying_of p x)) (sym (is_meant c.sets (ends_with_slash c.path.now) c)) said in
      subst (λ (o : Option Tree). heard o (saying_of p (change_meant c)) ≡ o) (h.own_is p) by_change

pub each_is_there_already : EachIsThereAlready
each_is_there_already first others g gs l m changes opened made good turned path =
    let own = last_value g.values in
    let before = opened_holds first others g gs l opened in
    let after = holds others own gs changes l m before (λ i c is. quiet_of others own gs l before c (made i c is).1 (good i c is)) turned in (
      value_seen others own gs m after path ∙ sym (value_seen others own gs l before path),
      origin_seen others own gs m after path ∙ sym (origin_seen others own gs l before path),
    )
