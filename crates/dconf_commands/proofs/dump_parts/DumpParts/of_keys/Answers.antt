use Rattle.std.proofs.Common.{◌≡◌, [], ◌∷◌, ◌∙◌, ℕ, List, Err, map, subst, arith, length, refl}
use Rattle.std.specs.Prelude.{IsTrue, nat_eq}
use Rattle.std.specs.List.{starts_with}
use Rattle.std.proofs.lemmas.List.Elements.{All-nil, All-same}
use Rattle.std.specs.Vec.Iter.{into_iter_items}
use Rattle.std.proofs.lemmas.Result.{err_from_is_err_and}
use Rattle.gv_view.specs.Views.{value}
use Rattle.dconf_model.specs.Outcomes.{dump_at}
use Rattle.dconf_path.specs.Paths.{directory_text}
use Rattle.dconf_layers.specs.declared.seen.SeenKey.{SeenKey}
use Rattle.dconf_layers.specs.Children.{seen_path}
use Rattle.dconf_streams.specs.Answers.{GivesOutcome}
use Rattle.dconf_commands.specs.Dumps.{IsSeen, dump_onto, goes_on, setting_of}
use Rattle.dconf_commands.proofs.DumpLaws.{at_first, first_of_all, none_seen, nothing_seen, some_seen}
use Rattle.dconf_commands.proofs.dump_parts.DumpParts.of_keys.Goals as goal

abbrev StartsWith : List ℕ → SeenKey → Type 0
StartsWith directory key = IsTrue (starts_with nat_eq (seen_path key) directory)

none_left : (keys : List SeenKey) → length keys ≡ 0 → keys ≡ []
none_left [] e = refl
none_left (key ∷ keys) e = absurd (omega (arith, e))

pub loop-key-init : goal.loop-key-init
loop-key-init c =
    let directory = directory_text c.args.directory in
    let from = c.into_iter-key-iterator.ensures.into_iter_gives.0 in
    record {
      seen = λ layers all. All-same (IsSeen layers) (into_iter_items c.into_iter-key-iterator.result) c.args.keys.items from all;
      dump = λ layers all.
          (λ i. dump_onto c.may_skip-skips.result layers directory (c.new.ensures.bytes i) (map setting_of (c.in_ok-with_capacity.ensures.items i)) (map seen_path (from i)))
          ∙ at_first c.may_skip-skips.result layers directory c.args.skip_doubles (map seen_path c.args.keys.items) c.may_skip-skips.ensures;
      left = All-same (StartsWith directory) (into_iter_items c.into_iter-key-iterator.result) c.args.keys.items from c.requires;
      below = All-same (λ x. IsTrue (starts_with nat_eq (setting_of x).path directory)) c.in_ok-with_capacity.field-0.items [] c.in_ok-with_capacity.ensures.items (All-nil (λ x. IsTrue (starts_with nat_eq (setting_of x).path directory)));
    }

pub returns-clause-ok : goal.returns-clause-ok
returns-clause-ok c = λ layers all.
    let directory = directory_text c.args.directory in
    let none : into_iter_items c.loop-key.key-iterator ≡ [] = none_left (into_iter_items c.loop-key.key-iterator) (omega (arith, c.in-None.ensures.steps.0, c.loop-key.key-iterator.rest.ok.0)) in
    subst (λ keys. goes_on c.may_skip-skips.result layers directory c.loop-key.parts (map seen_path keys) ≡ dump_at c.args.skip_doubles directory layers (map seen_path c.args.keys.items)) none
    (c.loop-key.invariant.dump layers all)

pub loop-key-preserved-in_ok-push-in-Some-bytes : goal.loop-key-preserved-in_ok-push-in-Some-bytes
loop-key-preserved-in_ok-push-in-Some-bytes c =
    let directory = directory_text c.args.directory in
    let key = c.in-Some.key in
    let now = into_iter_items c.loop-key.key-iterator in
    let rest = into_iter_items c.next.new.self in
    let cut : now ≡ key ∷ rest = c.in-Some.ensures.steps.0 in
    let before = c.loop-key.invariant in
    record {
      seen = λ layers all. (first_of_all (IsSeen layers) now rest key cut (before.seen layers all)).1;
      dump = λ layers all.
          c.in_ok-push-in-Some-bytes.ensures.ok layers (map seen_path rest)
          (some_seen layers key (first_of_all (IsSeen layers) now rest key cut (before.seen layers all)).0 c.in-Some-bytes.bytes (value c.of_variant.result) c.in-Some-bytes.is c.of_variant.ensures.value)
          ∙ subst (λ ks. goes_on c.may_skip-skips.result layers directory c.loop-key.parts (map seen_path ks) ≡ dump_at c.args.skip_doubles directory layers (map seen_path c.args.keys.items)) cut
          (before.dump layers all);
      left = (first_of_all (StartsWith directory) now rest key cut before.left).1;
      below = c.in_ok-push-in-Some-bytes.ensures.below before.below;
    }

pub returns-in_err-push-in-Some-bytes-clause-err : goal.returns-in_err-push-in-Some-bytes-clause-err
returns-in_err-push-in-Some-bytes-clause-err c =
    let directory = directory_text c.args.directory in
    let key = c.in-Some.key in
    let now = into_iter_items c.loop-key.key-iterator in
    let rest = into_iter_items c.next.new.self in
    let cut : now ≡ key ∷ rest = c.in-Some.ensures.steps.0 in
    let before = c.loop-key.invariant in
    let p = err_from_is_err_and c.from_residual-in_err-push-in-Some-bytes.result c.from_residual-in_err-push-in-Some-bytes.ensures.1 in
    rw (p.1, p.2) (λ layers all.
    subst (λ outcome. GivesOutcome (Err c.in_err-push-in-Some-bytes.field-0.0) (λ o. o ≡ outcome))
    (subst (λ ks. goes_on c.may_skip-skips.result layers directory c.loop-key.parts (map seen_path ks) ≡ dump_at c.args.skip_doubles directory layers (map seen_path c.args.keys.items)) cut
    (before.dump layers all))
    (c.in_err-push-in-Some-bytes.ensures.err layers (map seen_path rest)
    (some_seen layers key (first_of_all (IsSeen layers) now rest key cut (before.seen layers all)).0 c.in-Some-bytes.bytes (value c.of_variant.result) c.in-Some-bytes.is c.of_variant.ensures.value)))

pub loop-key-preserved : goal.loop-key-preserved
loop-key-preserved c =
    let directory = directory_text c.args.directory in
    let key = c.in-Some.key in
    let now = into_iter_items c.loop-key.key-iterator in
    let rest = into_iter_items c.next.new.self in
    let cut : now ≡ key ∷ rest = c.in-Some.ensures.steps.0 in
    let before = c.loop-key.invariant in
    record {
      seen = λ layers all. (first_of_all (IsSeen layers) now rest key cut (before.seen layers all)).1;
      dump = λ layers all.
          nothing_seen c.may_skip-skips.result layers directory _ _ (seen_path key) (map seen_path rest)
          (none_seen layers key (first_of_all (IsSeen layers) now rest key cut (before.seen layers all)).0 c.in-None-bytes.is)
          ∙ subst (λ ks. goes_on c.may_skip-skips.result layers directory c.loop-key.parts (map seen_path ks) ≡ dump_at c.args.skip_doubles directory layers (map seen_path c.args.keys.items)) cut
          (before.dump layers all);
      left = (first_of_all (StartsWith directory) now rest key cut before.left).1;
      below = before.below;
    }
