-- A store after turns of changes.
use Rattle.std.proofs.Common.{◌∷◌, [], ℕ, List, Some, sym, subst, map}
use Rattle.dconf_model.specs.Bytes.{MaybeBytes}
use Rattle.dconf_model.specs.Databases.{AreLayers}
use Rattle.dconf_model.specs.Folders.{read_content}
use Rattle.dconf_model.specs.Layers.{Layers}
use Rattle.dconf_model.specs.Sources.{Given, last_value}
use Rattle.dconf_model.specs.Stores.{OwnValues, StoreHolds, own_after, own_changed}
use Rattle.dconf_model.proofs.Histories.{MayRun}
use Rattle.dconf_model.proofs.StoreValues.{after_change, after_reopening, opened_holds, origin_seen, own_joined, value_seen}
use Rattle.dconf_turn.proofs.SurvivalLaws.{no_turn_is_lost}
use Rattle.dconfdb_calls.specs.Turns.{HaveOwn, MakesFile, TurnsGiveValues, changes_in}
use Rattle.dconfdb_calls.specs.Changed.{AreMadeInTurn, IsChanged, change_meant}
use Rattle.dconfdb_calls.specs.declared.changes.DconfdbChange.{DconfdbChange}

pub after_all : (others : List MaybeBytes) (gs : List Given) (own : OwnValues) (cs : List DconfdbChange) (l m : Layers) → StoreHolds others own gs l → AreMadeInTurn cs l m → StoreHolds others (own_after gs own (map change_meant cs)) gs m
after_all others gs own [] l m h same = subst (StoreHolds others own gs) same h
after_all others gs own (c ∷ cs) l m h made =
    after_all others gs (own_changed gs own (change_meant c)) cs made.0 m (after_change others own gs l made.0 h (change_meant c) made.1 made.3) made.4

-- what came of a turn has the values after it
came_of : (first : MaybeBytes) (others : List MaybeBytes) (own : OwnValues) (gs : List Given) (cs : List DconfdbChange) (l : Layers) (file : List ℕ) → HaveOwn first others own gs → AreLayers (first ∷ others) l.layers →
    IsChanged l cs file → HaveOwn (Some file) others (own_after gs own (map change_meant cs)) gs
came_of first others own gs cs l file have opened made m again =
    after_reopening others (own_after gs own (map change_meant cs)) gs made.after m (after_all others gs own cs l made.after (have l opened) made.changed) file made.saved_is again

after_turns : (others : List MaybeBytes) (gs : List Given) (own : OwnValues) (first last : MaybeBytes) (turns : List (List DconfdbChange)) → HaveOwn first others own gs →
    MayRun (MakesFile others) first turns last → HaveOwn last others (own_after gs own (changes_in turns)) gs
after_turns others gs own first last [] have is = subst (λ file. HaveOwn file others own gs) (sym is) have
after_turns others gs own first last (changes ∷ more) have ran =
    let made = ran.1 in
    let after = own_after gs own (map change_meant changes) in
    let next = subst (λ file. HaveOwn file others after gs) (sym made.new_is) (came_of first others own gs changes made.before made.file have made.opened made.changed) in
    subst (λ own. HaveOwn last others own gs) (own_joined gs own (map change_meant changes) (changes_in more)) (after_turns others gs after ran.0 last more next ran.2)

pub turns_give_values : TurnsGiveValues
turns_give_values others name lock old new happened c g gs apart settled give came left =
    let kept = no_turn_is_lost (MakesFile others) name lock old new happened c apart settled came left in
    let first = read_content old name in
    let own = last_value g.values in
    let have = after_turns others gs own first c kept.0 (λ l opened. opened_holds first others g gs l (record { layers = opened; gives = give })) kept.2 in
    let last = own_after gs own (changes_in kept.0) in
    (kept.0, kept.1, λ l opened path. (value_seen others last gs l (have l opened) path, origin_seen others last gs l (have l opened) path))
