use Rattle.std.proofs.Common.{rules, ◌≡◌, List, length}
use Rattle.std.proofs.lemmas.List.{get_or_default}
use Rattle.gvdb_maps.specs.declared.names.Named.{Named}
use Rattle.gvdb_maps.specs.PlanWords.{no_name}
use Rattle.gvdb_maps.proofs.PathTexts.{text_of_key}
use Rattle.gvdb_maps.proofs.Adding.{start, plain_step, slash_step, path_step}
use Rattle.gvdb_maps.proofs.names.add.Goals as goal
use Rattle.gvdb_maps.proofs.names.add.Goals.{then-text-i-eq47+in_ok-push, else-text-i-eq47}

pub loop-i-init : goal.loop-i-init
loop-i-init c =
    let names : List Named = c.args.names.now.items in
    let at = λ (d : Named). get_or_default names c.args.directory d no_name c.requires.lies.within in
    record {
      path = text_of_key c.args.text.now c.requires.path;
      utf8 = c.requires.utf8;
      adding = rw (c.index.ensures, at c.index.result.now, c.index-2.ensures, at c.index-2.result.now) (start names c.args.text.now c.args.directory c.requires.good c.requires.lies c.requires.beyond);
    }

pub loop-i-preserved : goal.loop-i-preserved
loop-i-preserved c =
    let i = c.loop-i.invariant in
    record {
      path = i.path;
      utf8 = i.utf8;
      adding = elim c.if-text-i-eq47.branch [
        | then-text-i-eq47+in_ok-push w ↦
            let counted : w.len-place.result ≡ length c.loop-i.names.items = search rules in
            rw (w.names-is, w.in_ok-push.ensures.items, w.parent-is, counted, w.from-is, c.hash_with-hash.ensures)
            (slash_step c.args.names.now.items c.loop-i.names.items c.args.text.now _ c.loop-i.parent c.loop-i.from c.loop-i.hash c.loop-i.i i.path i.utf8 i.adding c.loop-i-test.true w.if-text-i-eq47.true)
        | else-text-i-eq47 w ↦
            rw (w.names-is, w.parent-is, w.from-is, c.hash_with-hash.ensures)
            (plain_step c.args.names.now.items c.loop-i.names.items c.args.text.now c.loop-i.parent c.loop-i.from c.loop-i.hash c.loop-i.i i.adding c.loop-i-test.true w.if-text-i-eq47.false)
      ];
    }

pub returns-clause-added : goal.returns-clause-added
returns-clause-added c =
    rw c.in_ok-push-2.ensures.items
    (path_step c.args.names.now.items c.loop-i.names.items c.args.text.now c.args.value.now _ _ c.loop-i.parent c.loop-i.from c.loop-i.hash c.loop-i.i c.loop-i.invariant.path c.loop-i.invariant.utf8 c.loop-i.invariant.adding c.loop-i-test.false)
