use Rattle.std.proofs.Common.{codes, refl, rules}
use Rattle.clap.specs.Words.{found_of, rows_of}
use Rattle.dconf_args.proofs.Subcommands.{asked_by, asks_to_compare, asks_to_update, formed_by, given, is_entered, named_by, placed_by}
use Rattle.dconf_args.proofs.words.all_asked.Goals as goal

pub unwrap-requires : goal.unwrap-requires
unwrap-requires c =
    is_entered c.requires.0 c.args.matches.now c.requires.1 (λ q. q.0.now) (λ q. rows_of (found_of q.1.now)) c.subcommand.result c.subcommand.ensures.name c.subcommand.ensures.rows

pub asked-requires-clause-named : goal.asked-requires-clause-named
asked-requires-clause-named c = (
  c.requires.0,
  named_by c.requires.0 c.args.matches.now c.requires.1 (λ q. q.0.now) (λ q. rows_of (found_of q.1.now)) c.subcommand.result c.subcommand.ensures.name c.subcommand.ensures.rows
      c.unwrap.result c.unwrap.result.1.now c.unwrap.ensures refl,
)

pub returns-then-eq : goal.returns-then-eq
returns-then-eq c = λ words p.
    let named = named_by words c.args.matches.now p (λ q. q.0.now) (λ q. rows_of (found_of q.1.now)) c.subcommand.result c.subcommand.ensures.name c.subcommand.ensures.rows
    c.unwrap.result c.unwrap.result.1.now c.unwrap.ensures refl in
    asks_to_update words _ _ named _ _ _ (search rules) c.in_ok-value_if_any.ensures (search rules) (search rules)

pub value-requires : goal.value-requires
value-requires c =
    let named = named_by c.requires.0 c.args.matches.now c.requires.1 (λ q. q.0.now) (λ q. rows_of (found_of q.1.now)) c.subcommand.result c.subcommand.ensures.name c.subcommand.ensures.rows
    c.unwrap.result c.unwrap.result.1.now c.unwrap.ensures refl in
    given _ _ _ named (codes "diff") (search rules) (codes "OLD") refl refl

pub value-requires-then-eq-2 : goal.value-requires-then-eq-2
value-requires-then-eq-2 c =
    let named = named_by c.requires.0 c.args.matches.now c.requires.1 (λ q. q.0.now) (λ q. rows_of (found_of q.1.now)) c.subcommand.result c.subcommand.ensures.name c.subcommand.ensures.rows
    c.unwrap.result c.unwrap.result.1.now c.unwrap.ensures refl in
    given _ _ _ named (codes "diff") (search rules) (codes "NEW") refl refl

pub returns-then-eq-2 : goal.returns-then-eq-2
returns-then-eq-2 c = λ words p.
    let named = named_by words c.args.matches.now p (λ q. q.0.now) (λ q. rows_of (found_of q.1.now)) c.subcommand.result c.subcommand.ensures.name c.subcommand.ensures.rows
    c.unwrap.result c.unwrap.result.1.now c.unwrap.ensures refl in
    asks_to_compare words _ _ named _ _ _ (search rules) c.in_ok-value.ensures c.in_ok-value-2.ensures (search rules)

pub returns : goal.returns
returns c = λ words p.
    let named = named_by words c.args.matches.now p (λ q. q.0.now) (λ q. rows_of (found_of q.1.now)) c.subcommand.result c.subcommand.ensures.name c.subcommand.ensures.rows
    c.unwrap.result c.unwrap.result.1.now c.unwrap.ensures refl in
    let place = c.in_ok-place.ensures in
    (asked_by words _ _ named _ c.in_ok-asked.ensures, (placed_by words _ _ named _ place.user place.folder place.profile place.own, formed_by words _ _ named _ (search rules)))
