use Rattle.std.proofs.Common.{◌≡◌, ◌∙◌, ◌∷◌, ap, sym, subst, List, ℕ, Option}
use Rattle.std.specs.FinMap.{entries}
use Rattle.std.specs.String.{string_bytes}
use Rattle.std.specs.declared.string.String.{String}
use Rattle.std.specs.declared.alloc.Global.{Global}
use Rattle.dconf_model.specs.Settings.{Settings}
use Rattle.dconf_engine.specs.Unsaved.{edit_bytes, Unsaved}
use Rattle.dconf_engine.specs.Saved.{set_if, with_sets}
use Rattle.dconf_engine.specs.TextMaps.{entries_by, at_texts, AreAtKeyPaths}
use Rattle.dconf_engine.specs.declared.changes.Edit.{Edit}
use Rattle.dconf_engine.proofs.TextMapLaws.{entries_at_texts, each_at_keys, first_at_key, rest_after}
use Rattle.dconf_engine.proofs.changes.Changes.move_sets.Goals as goal

-- with the first of what is left set, the others are left
one_set : (before after : List (String Global × Edit)) (path : String Global) (edit : Edit) (s t : Settings) → before ≡ (path, edit) ∷ after → t ≡ set_if s (string_bytes path) (edit_bytes edit) →
    with_sets (entries_by edit_bytes after) t ≡ with_sets (entries_by edit_bytes before) s
one_set before after path edit s t is set =
    ap (λ (x : Settings). with_sets (entries_by edit_bytes after) x) set ∙ sym (ap (λ (es : List (String Global × Edit)). with_sets (entries_by edit_bytes es) s) is)

pub loop-path-init : goal.loop-path-init
loop-path-init c =
    let m = c.self.inside.edits in
    let e = c.into_iter-path-iterator.ensures.into_iter_gives in
    let listed : entries_by edit_bytes c.into_iter-path-iterator.result ≡ entries (at_texts edit_bytes m) = ap (entries_by edit_bytes) e.0 ∙ sym (entries_at_texts edit_bytes m e.5) in
    record {
      gives = ap (λ (es : List (List ℕ × Option (List ℕ))). with_sets es c.args.values.now) (listed ∙ ap (λ (u : Unsaved). entries u) c.self.view_is);
      are_paths = subst (λ (es : List (List ℕ × Option (List ℕ))). AreAtKeyPaths es) (sym listed) (each_at_keys (at_texts edit_bytes m) c.self.invariant);
    }

pub set_at-requires : goal.set_at-requires
set_at-requires c =
    first_at_key edit_bytes c.loop-path.path-iterator c.next.new.self c.in-Some.path c.in-Some.edit c.in-Some.ensures.steps c.loop-path.invariant.are_paths

pub loop-path-preserved : goal.loop-path-preserved
loop-path-preserved c =
    let before = c.loop-path.path-iterator in
    record {
      gives = one_set before c.next.new.self c.in-Some.path c.in-Some.edit c.loop-path.values c.set_at.new.values c.in-Some.ensures.steps c.in_ok-set_at.ensures ∙ c.loop-path.invariant.gives;
      are_paths = rest_after edit_bytes before c.next.new.self c.in-Some.path c.in-Some.edit c.in-Some.ensures.steps c.loop-path.invariant.are_paths;
    }
