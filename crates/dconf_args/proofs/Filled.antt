-- After a walk over words, each row has a value but those of options, where the other flags only ask for help or the version.
use Rattle.std.proofs.Common.{◌≡◌, ◌<◌, ◌++◌, ◌&&◌, ◌∙◌, ◌⊎◌, inl, inr, ◌+◌, ℕ, Bool, true, false, zero, suc, List, [], ◌∷◌, length, refl, sym, ap, subst, min, Option, Some, None, arith, length-append, if◌then◌else◌, codes}
use Rattle.std.specs.Prelude.{⊤, IfSome, IsSome, fold, slice_get, drop, encode_utf8}
use Rattle.std.specs.List.{list_any}
use Rattle.std.specs.Str.{bytes_eq, chars}
use Rattle.std.proofs.lemmas.Bool.{cond_both}
use Rattle.std.proofs.lemmas.Slice.Eq.{bytes_eq-Decides}
use Rattle.clap.specs.declared.builder.ArgAction.{ArgAction}
use Rattle.clap.specs.declared.builder.ArgAction.TheVariants as action
use Rattle.clap.specs.declared.builder.value_parser.Reading.{Reading}
use Rattle.clap.specs.declared.parser.matches.ValueSource.{ValueSource}
use Rattle.clap.specs.declared.parser.matches.ValueSource.TheVariants.{CommandLine}
use Rattle.clap.specs.Lexer.{long_of, short_of}
use Rattle.clap.specs.Walk.{Row, Rule, Text, Held, Walk, Names, Waiting, idle, option, positional, Step, next, trailing, subcommand, value, Outcome, done, waits, plain, refused}
use Rattle.clap.specs.Walk.{at_row, count_of, without, with_count, with_values, attached_value, counted, more_values, new_count, option_met, values_or_missing, used_as, used, used_by_id}
use Rattle.clap.specs.Walk.{settled_rows, settled, reacted, started, pushed, action_of, reading_by, takes_values, takes_several, is_pending, has_row, with_default, default_rows, finished}
use Rattle.clap.specs.Walk.{arg_by_id, arg_by_long, arg_by_short, arg_by_index, flag_met, long_met, short_met, bundle_step, bundle_met, bundle, option_word, plain_word, after_flag}
use Rattle.clap.specs.Walk.{short_or_plain, long_or_other, subcommand_met, subcommand_or_other, word_met, positional_held, to_positional, after_step, walked_from, walked, walk_from, walk}
use Rattle.clap.specs.Matches.{count_text}
use Rattle.clap.specs.Takes.{is_given}
use Rattle.clap.specs.Words.{first_of}

-- the ids of the options, of which nothing is said here: their values come after them, and may be missing till the next word
abbrev pub is_option : Text → Bool
is_option id = list_any (λ other. bytes_eq other id) (codes "locks" ∷ (codes "profile" ∷ (codes "user" ∷ (codes "store" ∷ (codes "default" ∷ (codes "force" ∷ (codes "skip-doubles" ∷ (codes "own" ∷ (codes "dry-run" ∷ (codes "json" ∷ []))))))))))

-- there is a value, unless the argument is an option
abbrev Holds : Text → List Text → Type 0
Holds id values = (is_option id ≡ true) ⊎ (0 < length values)

-- so it is of each row
abbrev pub Filled : List Row → Type 0
Filled [] = ⊤
Filled (r ∷ rows) = Holds r.id r.values × Filled rows

-- and of what is pending
abbrev FilledPending : Option (Text × List Text) → Type 0
FilledPending None = ⊤
FilledPending (Some p) = Holds p.0 p.1

abbrev FilledHeld : Held → Type 0
FilledHeld h = Filled h.rows × FilledPending h.pending

-- ---- one use of an argument

append_holds : (id : Text) (xs ys : List Text) → Holds id xs → Holds id (xs ++ ys)
append_holds id xs ys (inl free) = inl free
append_holds id xs ys (inr some) = inr (omega (arith, length-append xs ys))

append_filled : (xs ys : List Row) → Filled xs → Filled ys → Filled (xs ++ ys)
append_filled [] ys p q = q
append_filled (x ∷ xs) ys p q = (p.0, append_filled xs ys p.1 q)

at_row_filled : (id : Text) (change : Row → List Row) (missing rows : List Row)
    → ((r : Row) → Holds r.id r.values → Filled (change r)) → Filled missing → Filled rows → Filled (at_row id change missing rows)
at_row_filled id change missing [] each m f = m
at_row_filled id change missing (r ∷ rows) each m f =
    cond_both (bytes_eq r.id id) (change r ++ rows) (r ∷ at_row id change missing rows) Filled
    (λ here. append_filled (change r) rows (each r f.0) f.1) (λ other. (f.0, at_row_filled id change missing rows each m f.1))

without_filled : (id : Text) (rows : List Row) → Filled rows → Filled (without id rows)
without_filled id rows f = at_row_filled id (λ _. []) [] rows (λ r some. tt) tt f

with_values_filled : (id : Text) (how : Reading) (s : ValueSource) (values : List Text) (rows : List Row)
    → Holds id values → Filled rows → Filled (with_values id how s values rows)
with_values_filled id how s values rows h f =
    at_row_filled id (more_values s values) _ rows (λ r some. (append_holds r.id r.values values some, tt)) (h, tt) f

set_filled : (id : Text) (how : Reading) (s : ValueSource) (values : List Text) (rows : List Row)
    → Holds id values → Filled rows → Filled (with_values id how s values (without id rows))
set_filled id how s values rows h f = with_values_filled id how s values (without id rows) h (without_filled id rows f)

with_count_filled : (id : Text) (how : Reading) (s : ValueSource) (n : ℕ) (rows : List Row) → Filled rows → Filled (with_count id how s n rows)
with_count_filled id how s n rows f =
    at_row_filled id (new_count s n) _ rows (λ r some. (append_holds r.id r.values (count_text n ∷ []) some, tt)) (inr (omega arith), tt) f

counted_filled : (id : Text) (how : Reading) (values : List Text) (rows : List Row) → Holds id values → Filled rows → Filled (counted id how values rows)
counted_filled id how [] rows h f = with_count_filled id how CommandLine (min (count_of id rows + 1) 255) (without id rows) (without_filled id rows f)
counted_filled id how (v ∷ vs) rows h f = set_filled id how CommandLine (v ∷ vs) rows h f

used_as_filled : (x : ArgAction) (id : Text) (how : Reading) (values : List Text) (rows : List Row)
    → Holds id values → Filled rows → Filled (used_as x id how values rows)
used_as_filled action.Set id how values rows h f = set_filled id how _ values rows h f
used_as_filled action.SetTrue id how values rows h f = set_filled id how _ values rows h f
used_as_filled action.SetFalse id how values rows h f = set_filled id how _ values rows h f
used_as_filled action.Count id how values rows h f = counted_filled id how values rows h f
used_as_filled action.Append id how values rows h f = with_values_filled id how _ values rows h f
used_as_filled action.Help id how values rows h f = f
used_as_filled action.HelpShort id how values rows h f = f
used_as_filled action.HelpLong id how values rows h f = f
used_as_filled action.Version id how values rows h f = f

-- values that stand for none are those of an option
missing_holds : (a : Rule) (values : List Text) → Holds a.id values → Holds a.id (values_or_missing a values)
missing_holds a [] (inl free) = inl free
missing_holds a [] (inr some) = absurd (omega arith)
missing_holds a (v ∷ vs) h = h

used_filled : (a : Rule) (values : List Text) (rows : List Row) → Holds a.id values → Filled rows → Filled (used a values rows)
used_filled a values rows h f = used_as_filled (action_of a) a.id (reading_by a) (values_or_missing a values) rows (missing_holds a values h) f

used_by_id_filled : (id : Text) (a : Option Rule) (values : List Text) (rows : List Row) → IfSome a (λ r. r.id ≡ id) → Holds id values → Filled rows
    → Filled (used_by_id a values rows)
used_by_id_filled id None values rows same h f = f
used_by_id_filled id (Some a) values rows same h f = used_filled a values rows (subst (λ (i : Text). Holds i values) (sym same) h) f

-- what is looked up by an id has it
found_by_id : (id : Text) (c : List Rule) → IfSome (arg_by_id c id) (λ a. a.id ≡ id)
found_by_id id [] = tt
found_by_id id (a ∷ c) =
    cond_both (bytes_eq a.id id) (Some a) (arg_by_id c id) (λ (o : Option Rule). IfSome o (λ x. x.id ≡ id)) (bytes_eq-Decides a.id id).0 (λ other. found_by_id id c)

-- an option, or a flag that takes no value and leaves none
abbrev pub OnlyAsks : Option Rule → Type 0
OnlyAsks None = ⊤
OnlyAsks (Some a) = (is_option a.id ≡ true) ⊎ ((takes_values a ≡ false) × ((rows : List Row) → used a [] rows ≡ rows))

module _ (c : List Rule) where
  settled_rows_filled : (p : Option (Text × List Text)) (rows : List Row) → FilledPending p → Filled rows → Filled (settled_rows c p rows)
  settled_rows_filled None rows lt f = f
  settled_rows_filled (Some p) rows lt f = used_by_id_filled p.0 (arg_by_id c p.0) p.1 rows (found_by_id p.0 c) lt f

  settled_filled : (h : Held) → FilledHeld h → Filled (settled c h).rows
  settled_filled h f = settled_rows_filled h.pending h.rows f.1 f.0

  reacted_filled : (a : Rule) (h : Held) → ((rows : List Row) → used a [] rows ≡ rows) → FilledHeld h → FilledHeld (reacted c a [] h)
  reacted_filled a h same f = (subst Filled (sym (same (settled c h).rows)) (settled_filled h f), tt)

  -- of an option
  freely_reacted : (a : Rule) (values : List Text) (h : Held) → is_option a.id ≡ true → FilledHeld h → FilledHeld (reacted c a values h)
  freely_reacted a values h free f = (used_filled a values (settled c h).rows (inl free) (settled_filled h f), tt)

  option_met_filled : (a : Rule) (v : Option Text) (h : Held) → is_option a.id ≡ true → FilledHeld h → FilledHeld (option_met c a v h).0
  option_met_filled a (Some v) h free f = freely_reacted a (v ∷ []) h free f
  option_met_filled a None h free f = (settled_filled h f, inl free)

  flag_met_filled : (a : Rule) (v : Option Text) (h : Held) → FilledHeld (reacted c a [] h) → FilledHeld h → FilledHeld (flag_met c a v h).0
  flag_met_filled a None h r f = r
  flag_met_filled a (Some v) h r f = f

  long_met_filled : (found : Option Rule) (v : Option Text) (h : Held) → OnlyAsks found → FilledHeld h → FilledHeld (long_met c found v h).0
  long_met_filled None v h asks f = f
  long_met_filled (Some a) v h (inr asks) f = rw asks.0 (flag_met_filled a v h (reacted_filled a h asks.1 f) f)
  long_met_filled (Some a) v h (inl free) f =
      cond_both (takes_values a) (option_met c a v h) (flag_met c a v h) (λ (met : Held × Outcome). FilledHeld met.0)
      (λ takes. option_met_filled a v h free f) (λ none. flag_met_filled a v h (freely_reacted a [] h free f) f)

  short_met_filled : (found : Option Rule) (rest : Text) (h : Held) (go_on : Held → Held × Outcome) → OnlyAsks found
      → ((g : Held) → FilledHeld g → FilledHeld (go_on g).0) → FilledHeld h → FilledHeld (short_met c found rest h go_on).0
  short_met_filled None rest h go_on asks each f = f
  short_met_filled (Some a) rest h go_on (inr asks) each f = rw asks.0 (each (reacted c a [] h) (reacted_filled a h asks.1 f))
  short_met_filled (Some a) rest h go_on (inl free) each f =
      cond_both (takes_values a) (option_met c a (attached_value rest) h) (go_on (reacted c a [] h)) (λ (met : Held × Outcome). FilledHeld met.0)
      (λ takes. option_met_filled a (attached_value rest) h free f) (λ none. each (reacted c a [] h) (freely_reacted a [] h free f))

  module _ (long_asks : (name : Text) → OnlyAsks (arg_by_long c name)) (short_asks : (x : ℕ) → OnlyAsks (arg_by_short c x)) where
    bundle_step_filled : (x : Option ℕ) (flags : Text) (skip : ℕ) (so_far : Outcome) (h : Held) (go_on : Text → ℕ → Outcome → Held → Held × Outcome)
        → ((fs : Text) (n : ℕ) (o : Outcome) (g : Held) → FilledHeld g → FilledHeld (go_on fs n o g).0)
        → FilledHeld h → FilledHeld (bundle_step c x flags skip so_far h go_on).0
    bundle_step_filled None flags skip so_far h go_on each f = f
    bundle_step_filled (Some x) flags zero so_far h go_on each f =
        let rest = drop (length (encode_utf8 x)) flags in
        short_met_filled (arg_by_short c x) rest h (go_on rest 0 done) (short_asks x) (each rest 0 done) f
    bundle_step_filled (Some x) flags (suc skip) so_far h go_on each f = each (drop (length (encode_utf8 x)) flags) skip so_far h f

    bundle_met_filled : (k : ℕ) (flags : Text) (skip : ℕ) (so_far : Outcome) (h : Held) → FilledHeld h → FilledHeld (bundle_met c k flags skip so_far h).0
    unfolding bundle_met
    bundle_met_filled zero flags skip so_far h f = f
    bundle_met_filled (suc k) flags skip so_far h f =
        bundle_step_filled (slice_get (chars flags) 0) flags skip so_far h (bundle_met c k) (λ fs n o g. bundle_met_filled k fs n o g) f

    -- ---- a word

    pushed_filled : (id word : Text) (h : Held) → Filled h.rows → FilledHeld (pushed id word h)
    pushed_filled id word h f = (f, inr (omega (arith, length-append (started id h.pending).1 (word ∷ []))))

    option_word_filled : (a : Option Rule) (id word : Text) (h : Held) → FilledHeld h → FilledHeld (option_word a id word h).0
    option_word_filled None id word h f = f
    option_word_filled (Some a) id word h f = pushed_filled id word h f.0

    plain_word_filled : (waiting : Waiting) (word : Text) (h : Held) → FilledHeld h → FilledHeld (plain_word c waiting word h).0
    plain_word_filled idle word h f = f
    plain_word_filled (option id) word h f = option_word_filled (arg_by_id c id) id word h f
    plain_word_filled positional word h f = f

    after_flag_filled : (waiting : Waiting) (word : Text) (h : Held) (o : Outcome) → FilledHeld h → FilledHeld (after_flag c waiting word h o).0
    after_flag_filled waiting word h done f = f
    after_flag_filled waiting word h (waits id) f = f
    after_flag_filled waiting word h plain f = plain_word_filled waiting word h f
    after_flag_filled waiting word h refused f = plain_word_filled waiting word h f

    short_or_plain_filled : (waiting : Waiting) (word : Text) (flags : Option Text) (h : Held) → FilledHeld h → FilledHeld (short_or_plain c waiting word flags h).0
    short_or_plain_filled waiting word None h f = plain_word_filled waiting word h f
    short_or_plain_filled waiting word (Some flags) h f =
        after_flag_filled waiting word (bundle c flags h).0 (bundle c flags h).1 (bundle_met_filled (length flags) flags h.skip plain (record h { skip = 0 }) f)

    long_or_other_filled : (waiting : Waiting) (word : Text) (p : Option (Text × Option Text)) (h : Held) → FilledHeld h → FilledHeld (long_or_other c waiting word p h).0
    long_or_other_filled waiting word None h f = short_or_plain_filled waiting word (short_of word) h f
    long_or_other_filled waiting word (Some p) h f =
        after_flag_filled waiting word (long_met c (arg_by_long c p.0) p.1 h).0 (long_met c (arg_by_long c p.0) p.1 h).1
        (long_met_filled (arg_by_long c p.0) p.1 h (long_asks p.0) f)

    subcommand_or_other_filled : (name : Option Text) (waiting : Waiting) (place : ℕ) (word : Text) (h : Held)
        → FilledHeld h → FilledHeld (subcommand_or_other c name waiting place word h).0
    subcommand_or_other_filled (Some name) waiting place word h f = f
    subcommand_or_other_filled None waiting place word h f =
        cond_both (bytes_eq word (45 ∷ 45 ∷ [])) (h, trailing place) (long_or_other c waiting word (long_of word) h) (λ (met : Held × Step). FilledHeld met.0)
        (λ dashes. f) (λ other. long_or_other_filled waiting word (long_of word) h f)

    word_met_filled : (names : Names) (is_trailing : Bool) (waiting : Waiting) (place : ℕ) (word : Text) (h : Held)
        → FilledHeld h → FilledHeld (word_met c names is_trailing waiting place word h).0
    word_met_filled names true waiting place word h f = f
    word_met_filled names false waiting place word h f = subcommand_or_other_filled (subcommand_met names waiting word) waiting place word h f

    positional_filled : (a : Rule) (word : Text) (h : Held) → FilledHeld h → FilledHeld (positional_held c a word h)
    positional_filled a word h f =
        let more = is_pending a h.pending && takes_several a in
        pushed_filled a.id word (if more then h else settled c h)
        (cond_both more h (settled c h) (λ (held : Held). Filled held.rows) (λ stays. f.0) (λ settles. settled_filled h f))

    to_positional_filled : (a : Option Rule) (word : Text) (w : Walk) (h : Held) → FilledHeld h → FilledHeld (to_positional c a word w h).held
    to_positional_filled None word w h f = f
    to_positional_filled (Some a) word w h f = positional_filled a word h f

    after_step_filled : (word : Text) (w : Walk) (h : Held) (step : Step) → FilledHeld h → FilledHeld (after_step c word w h step).held
    after_step_filled word w h (next waiting) f = f
    after_step_filled word w h (trailing place) f = f
    after_step_filled word w h (subcommand name) f = f
    after_step_filled word w h value f = to_positional_filled (arg_by_index c w.position) word w h f

    walked_from_filled : (names : Names) (stop : Option (Text × List Text)) (w : Walk) (word : Text)
        → FilledHeld w.held → FilledHeld (walked_from c names stop w word).held
    walked_from_filled names (Some p) w word f = f
    walked_from_filled names None w word f =
        let met = word_met c names w.is_trailing w.waiting w.position word w.held in
        after_step_filled word w met.0 met.1 (word_met_filled names w.is_trailing w.waiting w.position word w.held f)

    walked_filled : (names : Names) (w : Walk) (word : Text) → FilledHeld w.held → FilledHeld (walked c names w word).held
    unfolding walked
    walked_filled names w word f = walked_from_filled names w.stopped w word f

    -- ---- the whole walk

    fold_filled : (names : Names) (words : List Text) (w : Walk) → FilledHeld w.held → FilledHeld (fold (walked c names) w words).held
    fold_filled names [] w f = f
    fold_filled names (word ∷ rest) w f = fold_filled names rest (walked c names w word) (walked_filled names w word f)

    default_rows_filled : (id : Text) (how : Reading) (values : List Text) (rows : List Row) → Filled rows → Filled (default_rows id how values rows)
    default_rows_filled id how [] rows f = f
    default_rows_filled id how (v ∷ vs) rows f = with_values_filled id how _ (v ∷ vs) rows (inr (omega arith)) f

    with_default_filled : (rows : List Row) (a : Rule) → Filled rows → Filled (with_default rows a)
    with_default_filled rows a f =
        cond_both (has_row a.id rows) rows (default_rows a.id (reading_by a) a.defaults rows) Filled
        (λ given. f) (λ missing. default_rows_filled a.id (reading_by a) a.defaults rows f)

    defaults_filled : (rules : List Rule) (rows : List Row) → Filled rows → Filled (fold with_default rows rules)
    defaults_filled [] rows f = f
    defaults_filled (a ∷ rules) rows f = defaults_filled rules (with_default rows a) (with_default_filled rows a f)

    pub walk_filled : (names : Names) (h : Held) (words : List Text) → FilledHeld h → Filled (finished c (walk c names h words).held)
    walk_filled names h words f =
        let end = (walk c names h words).held in
        defaults_filled c (settled c end).rows (settled_filled end (fold_filled names words (walk_from h) f))

-- ---- what such rows give

slice_some : (values : List Text) → 0 < length values → IsSome (slice_get values 0)
slice_some [] lt = absurd (omega arith)
slice_some (v ∷ vs) lt = refl

-- a row of an argument that is no option
row_some : (id : Text) (r : Row) → is_option id ≡ false → r.id ≡ id → Holds r.id r.values → IsSome (slice_get r.values 0)
row_some id r other same (inl free) = let bad : false ≡ true = sym other ∙ ap is_option (sym same) ∙ free in cc
row_some id r other same (inr some) = slice_some r.values some

-- an argument that was given, and is no option, has a first value
pub given_first : (id : Text) (rows : List Row) → is_option id ≡ false → Filled rows → is_given id rows ≡ true → IsSome (first_of id rows)
given_first id [] other f given = cc
given_first id (r ∷ rows) other f given = go (bytes_eq r.id id) refl (λ e. given_first id rows other f.1 e) given
  where
    go : (t : Bool) → bytes_eq r.id id ≡ t → (is_given id rows ≡ true → IsSome (first_of id rows)) → is_given id (r ∷ rows) ≡ true
        → IsSome (first_of id (r ∷ rows))
    go true e rest g = rw e (row_some id r other ((bytes_eq-Decides r.id id).0 e) f.0)
    go false e rest g = rw e (rest (rw e at g))
