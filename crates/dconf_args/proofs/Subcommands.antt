-- The subcommand that the words name, and what clap gives its arguments where it finds no fault in the words.
use Rattle.std.proofs.Common.{◌≡◌, ◌∙◌, ◌||◌, ◌&&◌, ◌++◌, inl, inr, not, Bool, true, false, List, [], ◌∷◌, refl, sym, ap, ap₂, subst, subst₂, Option, Some, None, is_some, codes}
use mathlib.Core.Path.{fun_ext}
use Rattle.std.specs.Prelude.{◌≢◌, ⊤, IfSome, IsSome, find, map, option_map, string_bytes, take, unwrap_or}
use Rattle.std.specs.List.{list_any, list_all}
use Rattle.std.specs.Option.{option_map_or}
use Rattle.std.specs.Str.{bytes_eq}
use Rattle.std.proofs.lemmas.Slice.Eq.{bytes_eq-Decides}
use Rattle.std.proofs.lemmas.Option.{same_Some}
use Rattle.clap.specs.Kinds.{Kinds, check_kinds}
use Rattle.clap.specs.Simple.{App, Shape, argument_words, built, entered, label_of, names_of, rows_at}
use Rattle.clap.specs.Walk.{Names, Row, Rule, Text, action_of, answers_to, has_long, has_short, is_empty, nothing_held, reading_by, rows_after, stop_after, takes_values, used_as, values_or_missing, walk_from}
use Rattle.clap.specs.Takes.{is_given}
use Rattle.clap.specs.Faults.{level_fault, entered_fault, check_fault, fault_of, walk_fault}
use Rattle.clap.specs.Words.{first_of, first_value, found_of, rows_of, subcommand_name_of, subcommand_of, subcommand_rows, subcommand_rows_of}
use Rattle.clap.specs.declared.parser.matches.ArgMatches.TheViews.{out-ArgMatches, out-SubCommand}
use Rattle.std.specs.Box.{box_value}
use Rattle.clap.specs.declared.ArgMatches.{ArgMatches}
use Rattle.clap.proofs.WalkLemmas.{first_value-rows, raw_values-rows}
use Rattle.dconf_args.specs.Asked.{AsksToCompare, AsksToUpdate, HasValue, IsAskedBy, IsNamedBy, IsOf, IsFormedBy, IsParsedBy, IsPlacedBy, Takes, is_set}
use Rattle.command_words.specs.declared.commands.Command.{Command}
use Rattle.dconf_args.specs.CommandLine.{command_line, show_line}
use Rattle.dconf_args.specs.declared.place.Place.{Place}
use Rattle.dconf_args.proofs.Stops.{IsNotHelp, StopsAt, or_else_nil, walk_not_help}
use Rattle.dconf_args.specs.Taken.{is_among}
use Rattle.dconf_args.proofs.Filled.{OnlyAsks, walk_filled, given_first, is_option}
use Rattle.dconf_args.proofs.Lines.{first_not}
use Rattle.clap.proofs.SimpleLemmas.{is_nil}
use Rattle.clap.specs.declared.builder.ArgAction.{ArgAction}
use Rattle.clap.specs.declared.builder.ArgAction.TheVariants as action
use Rattle.clap.specs.declared.builder.value_parser.Reading.{Reading}
use Rattle.std.proofs.lemmas.Bool.{and_parts, cond_both, or_cases}

-- no fault of a level
no_fault : (s : Shape) (names : Names) (words : List Text) (has : Bool) (below : Kinds) → level_fault s names nothing_held words has below ≡ []
    → (walk_fault s names (walk_from nothing_held) words ≡ []) × (below ≡ []) × (check_fault s (rows_after s.rules names words) has ≡ [])
no_fault s names words has below e =
    let walks = or_else_nil _ _ e in
    let later = or_else_nil _ _ walks.1 in
    (walks.0, later.0, (or_else_nil _ _ (or_else_nil _ _ later.1).1).1)

-- ---- required arguments

no_argument_wanted : (help subcommand wanted : Bool) → check_kinds help subcommand wanted ≡ [] → wanted ≡ false
no_argument_wanted true subcommand wanted e = cc
no_argument_wanted false true wanted e = cc
no_argument_wanted false false true e = cc
no_argument_wanted false false false e = refl

not_negated : (negates wanted : Bool) → (not (negates && false) && wanted) ≡ false → wanted ≡ false
not_negated true wanted e = e
not_negated false wanted e = e

-- the rules have a required argument of this id
abbrev pub wants : List Rule → Text → Bool
wants rules id = list_any (λ a. a.required && bytes_eq a.id id) rules

wanted_is_given : (rows : List Row) (id : Text) (rules : List Rule) → list_any (λ a. a.required && not (is_given a.id rows)) rules ≡ false
    → wants rules id ≡ true → is_given id rows ≡ true
wanted_is_given rows id [] e w = cc
wanted_is_given rows id (a ∷ rest) e w =
    go a.required (is_given a.id rows) (bytes_eq a.id id) refl refl (λ f t. wanted_is_given rows id rest f t) e w
  where
    go : (required given same : Bool) → is_given a.id rows ≡ given → bytes_eq a.id id ≡ same
        → (list_any (λ b. b.required && not (is_given b.id rows)) rest ≡ false → wants rest id ≡ true → is_given id rows ≡ true)
        → (required && not given || list_any (λ b. b.required && not (is_given b.id rows)) rest) ≡ false
        → (required && same || wants rest id) ≡ true → is_given id rows ≡ true
    go true true true g s later f t = subst (λ (i : Text). is_given i rows ≡ true) ((bytes_eq-Decides a.id id).0 s) g
    go true true false g s later f t = later f t
    go true false same g s later f t = cc
    go false given same g s later f t = later f t

check_gives : (s : Shape) (rows : List Row) (id : Text) → check_fault s rows false ≡ [] → wants s.rules id ≡ true → is_given id rows ≡ true
check_gives s rows id e w =
    wanted_is_given rows id s.rules (not_negated s.subcommand_negates_reqs _ (no_argument_wanted _ _ _ e)) w

-- ---- the subcommands

abbrev pub line : App
line = built command_line

-- the action only asks for help or the version
abbrev only_asks : ArgAction → Bool
only_asks action.Help = true
only_asks action.Version = true
only_asks _ = false

asks_alone : (x : ArgAction) (id : Text) (how : Reading) (values : List Text) (rows : List Row) → only_asks x ≡ true → used_as x id how values rows ≡ rows
asks_alone action.Set id how values rows e = cc
asks_alone action.SetTrue id how values rows e = cc
asks_alone action.SetFalse id how values rows e = cc
asks_alone action.Count id how values rows e = cc
asks_alone action.Append id how values rows e = cc
asks_alone action.Help id how values rows e = refl
asks_alone action.HelpShort id how values rows e = cc
asks_alone action.HelpLong id how values rows e = cc
asks_alone action.Version id how values rows e = refl

-- a rule of a word in its place, of an option, or of a flag that only asks
abbrev is_plain_rule : Rule → Bool
is_plain_rule a = is_some a.index || (is_option a.id || (not (takes_values a) && only_asks (action_of a)))

plain_asks : (a : Rule) → is_plain_rule a ≡ true → is_some a.index ≡ false → OnlyAsks (Some a)
plain_asks a e other = go (is_option a.id) (takes_values a) (only_asks (action_of a)) refl refl refl (rw other at e)
  where
    go : (free takes asks : Bool) → is_option a.id ≡ free → takes_values a ≡ takes → only_asks (action_of a) ≡ asks → (free || (not takes && asks)) ≡ true
        → OnlyAsks (Some a)
    go true takes asks f t q p = inl f
    go false true asks f t q p = cc
    go false false true f t q p = inr (t, λ rows. asks_alone (action_of a) a.id (reading_by a) (values_or_missing a []) rows q)
    go false false false f t q p = cc

-- what a search finds passes each test that all pass
pub found_passes : {X : Type 0} (all test : X → Bool) (xs : List X) → list_all all xs ≡ true → IfSome (find test xs) (λ x. (all x ≡ true) × (test x ≡ true))
found_passes all test [] e = tt
found_passes all test (x ∷ rest) e =
    let parts = and_parts _ _ e in
    cond_both (test x) (Some x) (find test rest) (λ o. IfSome o (λ y. (all y ≡ true) × (test y ≡ true)))
    (λ met. (parts.0, met)) (λ other. found_passes all test rest parts.1)

flags_ask : (named : Rule → Bool) (rules : List Rule) → list_all is_plain_rule rules ≡ true → OnlyAsks (find (λ a. not (is_some a.index) && named a) rules)
flags_ask named rules e = go _ (found_passes is_plain_rule (λ a. not (is_some a.index) && named a) rules e)
  where
    go : (o : Option Rule) → IfSome o (λ a. (is_plain_rule a ≡ true) × ((not (is_some a.index) && named a) ≡ true)) → OnlyAsks o
    go None met = tt
    go (Some a) met = plain_asks a met.0 (first_not _ _ met.1)

abbrev command_names : List Text
command_names = map (λ s. s.name) command_line.subs

-- its flags only ask, but for options, and its name is a command's
abbrev is_ours : Shape → Bool
is_ours s = list_all is_plain_rule s.rules && is_among s.name command_names

-- it is one of ours or, after ours, clap's own `help`
abbrev is_offered : Shape → Bool
is_offered s = is_empty s.aliases && (bytes_eq s.name (codes "help") || is_ours s)

all_offered : list_all is_offered line.subs ≡ true
all_offered = refl

ours : (s : Shape) → (bytes_eq s.name (codes "help") || is_ours s) ≡ true → s.name ≢ codes "help" → is_ours s ≡ true
ours s e other = elim (or_cases _ _ e) [
  | inl same ↦ absurd (other ((bytes_eq-Decides s.name (codes "help")).0 same))
  | inr is ↦ is
]

-- the subcommand of this name
abbrev pub sub_named : Text → Shape
sub_named name = unwrap_or (find (λ s. answers_to name (label_of s)) line.subs) show_line.top

pub answers_alone : (asked : Text) (s : Text × List Text) → is_empty s.1 ≡ true → answers_to asked s ≡ true → s.0 ≡ asked
answers_alone asked s alone e = elim (or_cases _ _ (rw (is_nil s.1 alone) at e)) [
  | inl same ↦ (bytes_eq-Decides s.0 asked).0 same
  | inr other ↦ cc
]

-- what clap gives the arguments of the subcommand that it met
pub record Enters (met : Option (Text × List Row)) : Type 0 where
  pub name : Text
  pub one : is_among name command_names ≡ true
  pub rows : List Row
  pub named : met ≡ Some (name, rows)
  pub given : (id : Text) → is_option id ≡ false → wants (sub_named name).rules id ≡ true → IsSome (first_of id rows)

sub_entered : (asked : Text) (words : List Text) (o : Option Shape) → asked ≢ codes "help" → find (λ s. answers_to asked (label_of s)) line.subs ≡ o
    → IfSome o (λ s. (is_offered s ≡ true) × (answers_to asked (label_of s) ≡ true))
    → option_map_or (λ s. level_fault s [] nothing_held words false []) o [] ≡ []
    → is_some (option_map (λ s. rows_at s words) o) ≡ true → Enters (option_map (λ s. rows_at s words) o)
sub_entered asked words None other found offered fault met = cc
sub_entered asked words (Some s) other found offered fault met =
    let rows = rows_after s.rules [] words in
    let named : s.name ≡ asked = answers_alone asked (label_of s) (and_parts _ _ offered.0).0 offered.1 in
    let plain = and_parts _ _ (ours s (and_parts _ _ offered.0).1 (λ help. other (sym named ∙ help))) in
    let same : sub_named s.name ≡ s = ap sub_named named ∙ ap (λ (o : Option Shape). unwrap_or o show_line.top) found in
    let checked = (no_fault s [] words false [] fault).2 in
    let filled = walk_filled s.rules (λ name. flags_ask (λ a. has_long a name) s.rules plain.0) (λ x. flags_ask (λ a. has_short a x) s.rules plain.0) []
    nothing_held words (tt, tt) in
    record {
      name = s.name;
      one = plain.1;
      rows = rows;
      named = refl;
      given = λ id other wanted. given_first id rows other filled (check_gives s rows id checked (subst (λ (x : Shape). wants x.rules id ≡ true) same wanted));
    }

entered_gives : (stop : Option (Text × List Text)) → StopsAt IsNotHelp stop → entered_fault line stop ≡ [] → is_some (entered line stop) ≡ true → Enters (entered line stop)
entered_gives None other fault met = cc
entered_gives (Some p) other fault met =
    sub_entered p.0 p.1 _ other refl (found_passes is_offered (λ s. answers_to p.0 (label_of s)) line.subs all_offered) fault met

met_below : (rows : List Row) (has : Bool) → check_fault line.top rows has ≡ [] → has ≡ true
met_below rows true e = refl
met_below rows false e = cc

pub enters : (words : List Text) → fault_of command_line words ≡ [] → Enters (subcommand_of command_line words)
enters words e =
    let args = argument_words command_line words in
    let stop = stop_after line.top.rules (names_of line) args in
    let level = no_fault line.top (names_of line) args (is_some (entered line stop)) (entered_fault line stop) e in
    let other : StopsAt IsNotHelp stop = walk_not_help line.top (names_of line) refl nothing_held args level.0 in
    entered_gives stop other level.1 (met_below (rows_after line.top.rules (names_of line) args) (is_some (entered line stop)) level.2)

-- ---- what clap gives the subcommand of this name

-- it is none of these
abbrev pub NoneOf : Text → List Text → Type 0
NoneOf name [] = ⊤
NoneOf name (x ∷ rest) = (name ≢ x) × NoneOf name rest

last_name : (name : Text) (others : List Text) (x : Text) → is_among name (others ++ x ∷ []) ≡ true → NoneOf name others → name ≡ x
last_name name [] x e none = elim (or_cases _ _ e) [
  | inl same ↦ sym ((bytes_eq-Decides x name).0 same)
  | inr other ↦ cc
]
last_name name (y ∷ rest) x e none = elim (or_cases _ _ e) [
  | inl same ↦ absurd (none.0 (sym ((bytes_eq-Decides y name).0 same)))
  | inr later ↦ last_name name rest x later none.1
]

module _ (words : List Text) (name : Text) (sub : ArgMatches) (p : IsNamedBy words name sub) where
  met : Enters (subcommand_of command_line words)
  met = enters words p.sound

  same : ◌≡◌ {A = Text × List Row} (met.name, met.rows) (name, rows_of (found_of sub))
  same = same_Some _ _ (sym met.named ∙ p.named)

  -- one that is no other command is `show`
  pub is_show : NoneOf name (take 14 command_names) → name ≡ codes "show"
  is_show = last_name name (take 14 command_names) (codes "show") (subst (λ (n : Text). is_among n command_names ≡ true) (ap (λ q. q.0) same) met.one)

  -- a word that it requires has a value
  pub given : (asked : Text) → name ≡ asked → (id : Text) → is_option id ≡ false → wants (sub_named asked).rules id ≡ true → HasValue sub id
  given asked is id other wanted =
      let named : asked ≡ met.name = sym is ∙ sym (ap (λ q. q.0) same) in
      rw (first_value-rows (found_of sub) id, sym (ap (λ q. q.1) same)) (met.given id other (subst (λ (n : Text). wants (sub_named n).rules id ≡ true) named wanted))

  -- what clap found says the same as the rows of the words
  pub asked_by : (command : Command) → IsOf name sub command → IsAskedBy words command
  asked_by command of = record {
    rows = rows_of (found_of sub);
    named = p.named ∙ ap (λ (n : Text). Some (n, rows_of (found_of sub))) (sym of.0);
    values = subst₂ (λ f g. Takes f g command) (fun_ext (first_value-rows (found_of sub))) (fun_ext (raw_values-rows (found_of sub))) of.1;
  }

  pub asks_to_update : (folder : Option Text) (forces dry : Bool) → name ≡ codes "update" → folder ≡ first_value (found_of sub) (codes "FOLDER")
      → forces ≡ is_set (first_value (found_of sub) (codes "force")) → dry ≡ is_set (first_value (found_of sub) (codes "dry-run")) → AsksToUpdate words folder forces dry
  asks_to_update folder forces dry is f g h = record {
    rows = rows_of (found_of sub);
    named = p.named ∙ ap (λ (n : Text). Some (n, rows_of (found_of sub))) is;
    folder_value = sym (first_value-rows (found_of sub) (codes "FOLDER")) ∙ sym f;
    force_value = ap is_set (sym (first_value-rows (found_of sub) (codes "force"))) ∙ sym g;
    dry_value = ap is_set (sym (first_value-rows (found_of sub) (codes "dry-run"))) ∙ sym h;
  }

  pub asks_to_compare : (old new : Text) (json : Bool) → name ≡ codes "diff" → first_value (found_of sub) (codes "OLD") ≡ Some old
      → first_value (found_of sub) (codes "NEW") ≡ Some new → json ≡ is_set (first_value (found_of sub) (codes "json")) → AsksToCompare words old new json
  asks_to_compare old new json is f g j = record {
    rows = rows_of (found_of sub);
    named = p.named ∙ ap (λ (n : Text). Some (n, rows_of (found_of sub))) is;
    old_value = sym (first_value-rows (found_of sub) (codes "OLD")) ∙ f;
    new_value = sym (first_value-rows (found_of sub) (codes "NEW")) ∙ g;
    json_value = ap is_set (sym (first_value-rows (found_of sub) (codes "json"))) ∙ sym j;
  }

  -- and its options say where the store is
  pub placed_by : (place : Place) → place.is_users ≡ is_set (first_value (found_of sub) (codes "user"))
      → option_map string_bytes place.folder ≡ first_value (found_of sub) (codes "store")
      → option_map string_bytes place.profile ≡ first_value (found_of sub) (codes "profile")
      → place.is_own ≡ is_set (first_value (found_of sub) (codes "own")) → IsPlacedBy words place
  placed_by place u f q o = record {
    name = name;
    rows = rows_of (found_of sub);
    named = p.named;
    user_value = ap is_set (sym (first_value-rows (found_of sub) (codes "user"))) ∙ sym u;
    folder_value = sym (first_value-rows (found_of sub) (codes "store")) ∙ sym f;
    profile_value = sym (first_value-rows (found_of sub) (codes "profile")) ∙ sym q;
    own_value = ap is_set (sym (first_value-rows (found_of sub) (codes "own"))) ∙ sym o;
  }

  pub formed_by : (is_json : Bool) → is_json ≡ is_set (first_value (found_of sub) (codes "json")) → IsFormedBy words is_json
  formed_by is_json j = record {
    name = name;
    rows = rows_of (found_of sub);
    named = p.named;
    json_value = ap is_set (sym (first_value-rows (found_of sub) (codes "json"))) ∙ sym j;
  }

-- ---- what a parse gave

name_by_rows : (m : ArgMatches) → subcommand_name_of m ≡ option_map (λ p. p.0) (subcommand_rows_of m)
name_by_rows m = elim (out-ArgMatches m).subcommand as (λ o. option_map (λ b. (out-SubCommand (box_value b)).name.now) o ≡ option_map (λ p. p.0) (subcommand_rows o)) [
  | None ↦ refl
  | Some b ↦ refl
]

module _ {X : Type 0} (words : List Text) (m : ArgMatches) (p : IsParsedBy words m) (f : X → Text) (g : X → List Row) (o : Option X)
    (names : option_map f o ≡ subcommand_name_of m) (rows : option_map g o ≡ option_map (λ q. q.1) (subcommand_rows_of m)) where
  abbrev pair : X → Text × List Row
  pair x = (f x, g x)

  pairs : (r : Option (Text × List Row)) (x : Option X) → option_map f x ≡ option_map (λ q. q.0) r → option_map g x ≡ option_map (λ q. q.1) r
      → option_map pair x ≡ r
  pairs None None e d = refl
  pairs None (Some y) e d = cc
  pairs (Some q) None e d = cc
  pairs (Some q) (Some y) e d = ap₂ (λ (n : Text) (rs : List Row). Some (n, rs)) (same_Some _ _ e) (same_Some _ _ d)

  -- the words name the subcommand that the parse gives
  names_it : option_map pair o ≡ subcommand_of command_line words
  names_it = pairs (subcommand_rows_of m) o (names ∙ name_by_rows m) rows ∙ p.met

  pub is_entered : IsSome o
  is_entered = go o (names_it ∙ (enters words p.sound).named)
    where
      go : (x : Option X) → option_map pair x ≡ Some ((enters words p.sound).name, (enters words p.sound).rows) → IsSome x
      go None e = cc
      go (Some y) e = refl

  pub named_by : (x : X) (sub : ArgMatches) → o ≡ Some x → g x ≡ rows_of (found_of sub) → IsNamedBy words (f x) sub
  named_by x sub is same = record {
    sound = p.sound;
    named = sym names_it ∙ ap (option_map pair) is ∙ ap (λ (rs : List Row). Some (f x, rs)) same;
  }
