-- The value of a path in a store is the one that rows, changes, locks and the order of its
-- databases give.
use Rattle.std.specs.Prelude.{◌≡◌, ◌-◌, ◌==◌, ℕ, zero, suc, Bool, true, false, nat_lt, List, [], ◌∷◌, ◌++◌, drop, Option, Some, Result, Ok, Err, cond, refl, is_some, option_and_then}
use Rattle.std.proofs.Common.{ap, sym, ◌∙◌, subst, ne_eqb, arith}
use Rattle.std.specs.Option.{option_or}
use Rattle.std.specs.FinMap.{get}
use Rattle.gv_model.specs.Tree.{Tree}
use Rattle.dconf_model.specs.Bytes.{MaybeBytes}
use Rattle.dconf_model.specs.Settings.{Settings}
use Rattle.dconf_model.specs.Values.{held_value}
use Rattle.dconf_model.specs.Sources.{Given, last_value}
use Rattle.dconf_model.specs.Databases.{AreLayers, IsDatabaseOf}
use Rattle.dconf_model.specs.Layers.{Layers, visible, origin, first_from, greatest_from, locks_path}
use Rattle.dconf_model.specs.Changes.{Change, Refusal, apply, change_written, saved}
use Rattle.dconf_model.specs.Changes.Refusal.{not_writable}
use Rattle.dconf_model.specs.Stores.{IsWholeChange, OwnValues, own_changed, own_after, first_given, first_number, level_given, value_given, value_from, number_given, number_from, heard, Saying, saying_of, AllGive, StoreHolds, Deed, DidDeeds, changes_of, IsOpenedStore, EachValueIsGiven}
use Rattle.dconf_model.specs.Stores.Deed.{changed, reopened}
use Rattle.dconf_model.proofs.DatabasesGiven.{level_gives, first_gives, number_gives, dropped_give, value_from_layers, value_before, number_of, number_before, files_give}
use Rattle.dconf_model.proofs.ChangeEffects.{store, with_values, value_at, step_of}
use Rattle.dconf_model.proofs.HeldLaws.{held_there}
use Rattle.dconf_model.proofs.ReopenLaws.{layers_again}

-- ---- what stands is seen

other_level : (k : ℕ) → (suc k == 0) ≡ false
other_level k = ne_eqb (suc k) 0 (λ e. absurd (omega (arith, e)))

seen_from : (n : ℕ) (s : Settings) (ss : List Settings) (gs : List Given) (path : List ℕ) (own : Option Tree) → AllGive ss gs →
    option_and_then held_value (get s.values path) ≡ own → value_from_layers n (drop n (s ∷ ss)) path ≡ value_from n path own gs
seen_from zero s ss gs path own h same =
    value_before 0 s ss path
    ∙ (ap (λ o. option_or o (value_from_layers 1 ss path)) same ∙ ap (option_or own) (first_gives 1 ss gs path h))
seen_from (suc k) s ss gs path own h same =
    let less : suc k - 1 ≡ k = omega arith in
    first_gives (suc k) (drop k ss) (drop k gs) path (dropped_give k ss gs h)
    ∙ (ap (λ n. first_given (drop n gs) path) (sym less)
    ∙ sym (ap (λ b. cond b (option_or own (first_given gs path)) (first_given (drop (suc k - 1) gs) path)) (other_level k)))

number_seen : (n : ℕ) (s : Settings) (ss : List Settings) (gs : List Given) (path : List ℕ) (own : Option Tree) → AllGive ss gs →
    option_and_then held_value (get s.values path) ≡ own → number_of (first_from n (drop n (s ∷ ss)) path) ≡ number_from n path own gs
number_seen zero s ss gs path own h same =
    number_before 0 (get s.values path) (first_from 1 ss path)
    ∙ (ap (λ b. cond b (Some 0) (number_of (first_from 1 ss path))) (sym (held_there (get s.values path)) ∙ ap is_some same)
    ∙ ap (cond (is_some own) (Some 0)) (number_gives 1 ss gs path h))
number_seen (suc k) s ss gs path own h same =
    let less : suc k - 1 ≡ k = omega arith in
    number_gives (suc k) (drop k ss) (drop k gs) path (dropped_give k ss gs h)
    ∙ (ap (λ n. first_number (suc k) (drop n gs) path) (sym less)
    ∙ sym (ap (λ b. cond b (cond (is_some own) (Some 0) (first_number 1 gs path)) (first_number (suc k) (drop (suc k - 1) gs) path)) (other_level k)))

module _ (others : List MaybeBytes) (own : OwnValues) (gs : List Given) (l : Layers) (h : StoreHolds others own gs l) where
  pub value_seen : (path : List ℕ) → visible l path ≡ value_given path (own path) gs
  value_seen path =
      ap (λ ls. value_from_layers (greatest_from 1 (locks_path path) (drop 1 ls)) (drop (greatest_from 1 (locks_path path) (drop 1 ls)) ls) path) h.layers
      ∙ (ap (λ n. value_from_layers n (drop n (h.first ∷ h.later)) path) (level_gives 1 h.later gs path h.gives)
      ∙ seen_from (level_given 1 gs path) h.first h.later gs path (own path) h.gives (h.own_is path))

  pub origin_seen : (path : List ℕ) → origin l path ≡ number_given path (own path) gs
  origin_seen path =
      ap (λ ls. number_of (first_from (greatest_from 1 (locks_path path) (drop 1 ls)) (drop (greatest_from 1 (locks_path path) (drop 1 ls)) ls) path)) h.layers
      ∙ (ap (λ n. number_of (first_from n (drop n (h.first ∷ h.later)) path)) (level_gives 1 h.later gs path h.gives)
      ∙ number_seen (level_given 1 gs path) h.first h.later gs path (own path) h.gives (h.own_is path))

-- ---- deeds

above_zero : (k : ℕ) → nat_lt 0 (suc k) ≡ true
above_zero k = grind arith

changed_by : (n : ℕ) (old new was : Option Tree) (word : Saying) → (nat_lt 0 n ≡ false → new ≡ heard old word) → (nat_lt 0 n ≡ true → new ≡ old) →
    old ≡ was → new ≡ cond (n == 0) (heard was word) was
changed_by zero old new was word free kept same = free refl ∙ ap (λ o. heard o word) same
changed_by (suc k) old new was word free kept same =
    kept (above_zero k) ∙ (same ∙ sym (ap (λ b. cond b (heard was word) was) (other_level k)))

-- a change that is accepted was made in a database that may be written
is_open : (b : Bool) (r : Result Layers Refusal) (m : Layers) → cond b r (Err not_writable) ≡ Ok m → b ≡ true
is_open true r m e = refl
is_open false r m e = cc

module _ (others : List MaybeBytes) (own : OwnValues) (gs : List Given) (l m : Layers) (h : StoreHolds others own gs l) where
  pub after_change : (change : Change) → IsWholeChange change → apply l change ≡ Ok m → StoreHolds others (own_changed gs own change) gs m
  after_change change whole e =
      let is_l : l ≡ store h.first h.later = λ i. record { layers = h.layers i; writable = is_open l.writable (change_written l change) m e i } in
      let accepted : apply (store h.first h.later) change ≡ Ok m = subst (λ (l : Layers). apply l change ≡ Ok m) is_l e in
      let made = step_of h.first h.later change m whole accepted in
      record {
        first = with_values h.first made.0;
        later = h.later;
        layers = ap (λ (l : Layers). l.layers) made.1;
        others_are = h.others_are;
        gives = h.gives;
        own_is = λ path.
            (let n : ℕ = level_given 1 gs path in
            let same : greatest_from 1 (locks_path path) h.later ≡ n = level_gives 1 h.later gs path h.gives in
            changed_by n (value_at h.first.values path) (value_at made.0 path) (own path) (saying_of path change)
            (λ f. (made.2 path).free (ap (nat_lt 0) same ∙ f)) (λ f. ap (option_and_then held_value) ((made.2 path).kept (ap (nat_lt 0) same ∙ f)))
            (h.own_is path));
      }

  pub after_reopening : (file : List ℕ) → IsDatabaseOf (saved l.layers) file → AreLayers (Some file ∷ others) m.layers → StoreHolds others own gs m
  after_reopening file written opened = record {
    first = saved (h.first ∷ h.later);
    later = h.later;
    layers = layers_again h.first h.later others file m.layers h.others_are (subst (λ ls. IsDatabaseOf (saved ls) file) h.layers written) opened;
    others_are = h.others_are;
    gives = h.gives;
    own_is = h.own_is;
  }

pub all_stand : (others : List MaybeBytes) (own : OwnValues) (gs : List Given) (l m : Layers) (deeds : List Deed) →
    StoreHolds others own gs l → DidDeeds others l deeds m → StoreHolds others (own_after gs own (changes_of deeds)) gs m
all_stand others own gs l m [] h did = subst (StoreHolds others own gs) (sym did) h
all_stand others own gs l m (changed change ∷ more) h did =
    all_stand others (own_changed gs own change) gs did.0 m more (after_change others own gs l did.0 h change did.1.0 did.1.1) did.2
all_stand others own gs l m (reopened file ∷ more) h did =
    all_stand others own gs did.0 m more (after_reopening others own gs l did.0 h file did.1.0 did.1.1) did.2

-- ---- opened

opened_by : (first : MaybeBytes) (others : List MaybeBytes) (g : Given) (gs : List Given) (l : Layers) (ls : List Settings) → l.layers ≡ ls →
    AreLayers (first ∷ others) ls → IsOpenedStore first others g gs l → StoreHolds others (last_value g.values) gs l
opened_by first others g gs l [] e k h = absurd k
opened_by first others g gs l (s ∷ ss) e k h =
    let give = files_give (first ∷ others) (g ∷ gs) (s ∷ ss) h.gives k in
    record { first = s; later = ss; layers = e; others_are = k.1; gives = give.1; own_is = give.0.values }

pub opened_holds : (first : MaybeBytes) (others : List MaybeBytes) (g : Given) (gs : List Given) (l : Layers) → IsOpenedStore first others g gs l → StoreHolds others (last_value g.values) gs l
opened_holds first others g gs l h = opened_by first others g gs l l.layers refl h.layers h

pub each_value_is_given : EachValueIsGiven
each_value_is_given first others g gs opened l deeds path h did =
    value_seen others (own_after gs (last_value g.values) (changes_of deeds)) gs l
    (all_stand others (last_value g.values) gs opened l deeds (opened_holds first others g gs opened h) did) path

-- changes one after another are one list
pub own_joined : (gs : List Given) (own : OwnValues) (first second : List Change) → own_after gs (own_after gs own first) second ≡ own_after gs own (first ++ second)
own_joined gs own [] second = refl
own_joined gs own (change ∷ first) second = own_joined gs (own_changed gs own change) first second
