use Rattle.std.proofs.Common.{rules, arith, ◌≡◌, ◌+◌, drop, Ok, ◌∷◌, refl, sym, ap, ◌∙◌, subst}
use Rattle.std.proofs.lemmas.Result.{err_from_is_err_and}
use Rattle.std.specs.Prelude.{string_bytes}
use Rattle.std.proofs.lemmas.List.{drop_all}
use Rattle.gv_model.specs.Ty.{members, types_from}
use Rattle.gv_model.specs.Ty.Ty.{basic, variant, array}
use Rattle.gv_model.specs.Ty.Basic.{boolean, byte}
use Rattle.gv_model.specs.Tree.Tree.{number, node}
use Rattle.gv_model.specs.Tree.Trees.{none}
use Rattle.gv_model.specs.Syntax.{levels, greatest_levels, pairs_levels}
use Rattle.gv_model.specs.Chosen.{Chooses}
use Rattle.gv_model.specs.Admits.{Admits, IsNumberType, IsTextType, AllAdmit, Admit, KeysAdmit, ValuesAdmit, IsArrayOf, IsTupleOf, IsEntryOf}
use Rattle.gv_model.specs.LeastTypes.{choice}
use Rattle.gv_model.specs.Literals.{integer_at, text_at, byte_string_trees}
use Rattle.gv_model.specs.TextValues.{literal_value, elements, members_of, entries, at_basic, at_array, at_tuple, at_entry, at_variant, at_maybe, only_one, chosen_or}
use Rattle.gv_model.proofs.PatternLaws.{choice_right}
use Rattle.gv_model.specs.BasicValue.{truth_bits}
use Rattle.gv_model.proofs.ListLaws.{types_from-listed, drop_item}
use Rattle.gv_types.specs.TypeStr.{ty}
use Rattle.gv_types.specs.Members.{members_left}
use Rattle.gv_syntax.specs.SyntaxNodes.{nodes_of, pairs_of, syntax_of}
use Rattle.gv_syntax.specs.Parsed.{IsWithin as IsInLimits}
use Rattle.gv_infer.specs.BareTypes.{bare_type}
use Rattle.gv_infer.specs.Building.{IsBuilt, IsOfType, IsWithinLimits}
use Rattle.gv_infer.specs.Within.{AreWithin, PairsWithin}
use Rattle.gv_patterns.proofs.Levels.{list_levels, tuple_levels, dictionary_levels, lone_levels, boxed_levels, just_levels, of_type_levels, keyword_levels, levels_at, pair_levels_at}
use Rattle.gv_infer.proofs.BuildLaws.{fits_bare, truth_value, maybe_holds, array_holds, bytes_at}
use Rattle.gv_infer.proofs.MadeTrees.{within_type}
use Rattle.gv_infer.proofs.BuiltChildren.{held_none, held_next, held_fault, held_all, elements_typed, entries_typed, all_of_type, are_members, just_built, entry_built, pair_fits}
use Rattle.gv_infer.proofs.WithinLaws.{list_within, tuple_within, dictionary_within, entry_within, box_within, just_within, of_type_within, keyword_within}
use Rattle.gv_infer.proofs.ValueLaws.{variant_fault}
use Rattle.gv_infer.proofs.build.+build.Goals.{build-in-Truth, build-in-Integer, build-in-Text, build-in-ByteString, build-in-Array, build-in-Tuple, build-in-Dictionary, build-in-Entry, build-in-Variant}
use Rattle.gv_infer.proofs.build.+build.Goals as goal

pub build-number_tree-built-requires : goal.build-number_tree-built-requires
build-number_tree-built-requires t c =
    let fits = subst (λ x. Admits x (ty c.args.of)) (sym c.node.view_is ∙ ap syntax_of c.in-Integer.is) c.requires.fits in
    fits_bare IsNumberType (ty c.args.of) _ fits c.bare-inside.ensures

pub build-text_tree-built-requires-clause-fits : goal.build-text_tree-built-requires-clause-fits
build-text_tree-built-requires-clause-fits t c =
    let fits = subst (λ x. Admits x (ty c.args.of)) (sym c.node.view_is ∙ ap syntax_of c.in-Text.is) c.requires.fits in
    fits_bare IsTextType (ty c.args.of) _ fits c.bare-inside.ensures

pub build-text_tree-built-requires-clause-plain : goal.build-text_tree-built-requires-clause-plain
build-text_tree-built-requires-clause-plain t c =
    let is = sym c.node.view_is ∙ ap syntax_of c.in-Text.is in
    let within = subst IsInLimits is c.requires.within in
    rw c.as_str.ensures.value within.plain

pub build-byte_string_at-built-requires : goal.build-byte_string_at-built-requires
build-byte_string_at-built-requires t c =
    let fits = subst (λ x. Admits x (ty c.args.of)) (sym c.node.view_is ∙ ap syntax_of c.in-ByteString.is) c.requires.fits in
    fits_bare (λ u. u ≡ array (basic byte)) (ty c.args.of) _ fits c.bare-inside.ensures

pub build-in_maybes-requires : goal.build-in_maybes-requires
build-in_maybes-requires t c =
    let bare = bare_type (ty c.args.of) in
    let inside = c.bare-inside.ensures in
    elim c.match-node.branch [
      | build-in-Truth w ↦
          let fits = subst (λ x. Admits x (ty c.args.of)) (sym c.node.view_is ∙ ap syntax_of w.in-Truth.is) c.requires.fits in
          let type = fits_bare (λ u. u ≡ basic boolean) (ty c.args.of) bare fits refl in
          rw w.built-is (subst (λ u. IsOfType u w.truth_tree-built.result) (sym type) w.truth_tree-built.ensures.typed)
      | build-in-Integer w ↦ rw w.built-is (subst (λ u. IsOfType u w.number_tree-built.result) inside w.number_tree-built.ensures.typed)
      | build-in-Text w ↦ rw w.built-is (subst (λ u. IsOfType u w.text_tree-built.result) inside w.text_tree-built.ensures.typed)
      | build-in-ByteString w ↦ rw w.built-is (subst (λ u. IsOfType u w.byte_string_at-built.result) inside w.byte_string_at-built.ensures.typed)
      | build-in-Array w ↦ rw w.built-is (subst (λ u. IsOfType u w.build_array-built.result) inside w.build_array-built.ensures.typed)
      | build-in-Tuple w ↦ rw w.built-is (subst (λ u. IsOfType u w.build_tuple-built.result) inside w.build_tuple-built.ensures.typed)
      | build-in-Dictionary w ↦ rw w.built-is (subst (λ u. IsOfType u w.build_dictionary-built.result) inside w.build_dictionary-built.ensures.typed)
      | build-in-Entry w ↦ rw w.built-is (subst (λ u. IsOfType u w.build_entry-built.result) inside w.build_entry-built.ensures.typed)
      | build-in-Variant w ↦
          let fits = subst (λ x. Admits x (ty c.args.of)) (sym c.node.view_is ∙ ap syntax_of w.in-Variant.is) c.requires.fits in
          let type = fits_bare (λ u. u ≡ variant) (ty c.args.of) bare fits refl in
          rw w.built-is (subst (λ u. IsOfType u w.build_variant-built.result) (sym type) w.build_variant-built.ensures.typed)
    ]

pub build-returns-clause-built : goal.build-returns-clause-built
unfolding literal_value
build-returns-clause-built t c =
    let of = ty c.args.of in
    let bare = bare_type of in
    let inside = c.bare-inside.ensures in
    let r = c.in_maybes.result in
    elim c.match-node.branch [
      | build-in-Truth w ↦
          let is = sym c.node.view_is ∙ ap syntax_of w.in-Truth.is in
          let f = at_basic (λ k. Ok (number k (truth_bits w.in-Truth.truth))) in
          let fits = subst (λ x. Admits x of) is c.requires.fits in
          let type = fits_bare (λ u. u ≡ basic boolean) of bare fits refl in
          let held = subst (λ u. IsBuilt (f u) w.truth_tree-built.result) (sym type) w.truth_tree-built.ensures.built in
          subst (λ v. IsBuilt v r) (sym (ap (λ x. literal_value choice x of) is ∙ truth_value choice w.in-Truth.truth of))
          (c.in_maybes.ensures.built f (subst (λ b. IsBuilt (f bare) b) (sym w.built-is) held))
      | build-in-Integer w ↦
          let is = sym c.node.view_is ∙ ap syntax_of w.in-Integer.is in
          let f = at_basic (λ k. integer_at k w.in-Integer.negative w.in-Integer.magnitude) in
          let held = subst (λ u. IsBuilt (f u) w.number_tree-built.result) inside w.number_tree-built.ensures.built in
          subst (λ x. IsBuilt (literal_value choice x of) r) (sym is) (c.in_maybes.ensures.built f (subst (λ b. IsBuilt (f bare) b) (sym w.built-is) held))
      | build-in-Text w ↦
          let is = sym c.node.view_is ∙ ap syntax_of w.in-Text.is in
          let f = at_basic (λ k. text_at k (string_bytes w.in-Text.text)) in
          let built = subst (λ s. IsBuilt (at_basic (λ k. text_at k s) (ty c.bare-inside.result)) w.text_tree-built.result) w.as_str.ensures.value w.text_tree-built.ensures.built in
          let held = subst (λ u. IsBuilt (f u) w.text_tree-built.result) inside built in
          subst (λ x. IsBuilt (literal_value choice x of) r) (sym is) (c.in_maybes.ensures.built f (subst (λ b. IsBuilt (f bare) b) (sym w.built-is) held))
      | build-in-ByteString w ↦
          let is = sym c.node.view_is ∙ ap syntax_of w.in-ByteString.is in
          let f = at_array (λ u. Ok (byte_string_trees w.in-ByteString.bytes.items)) in
          let fits = subst (λ x. Admits x of) is c.requires.fits in
          let kind = fits_bare (λ u. u ≡ array (basic byte)) of _ fits inside in
          let built = subst (λ s. IsBuilt (Ok (node (ty c.bare-inside.result) (byte_string_trees s))) w.byte_string_at-built.result) w.as_slice.ensures.value w.byte_string_at-built.ensures.built in
          let at_type = bytes_at (ty c.bare-inside.result) w.in-ByteString.bytes.items w.byte_string_at-built.result kind built in
          let held = subst (λ u. IsBuilt (f u) w.byte_string_at-built.result) inside at_type in
          subst (λ x. IsBuilt (literal_value choice x of) r) (sym is) (c.in_maybes.ensures.built f (subst (λ b. IsBuilt (f bare) b) (sym w.built-is) held))
      | build-in-Array w ↦
          let is = sym c.node.view_is ∙ ap syntax_of w.in-Array.is in
          let f = at_array (elements choice (nodes_of w.in-Array.elements.items)) in
          let built = subst (λ xs. IsBuilt (at_array (elements choice (nodes_of xs)) (ty c.bare-inside.result)) w.build_array-built.result) w.as_slice-in-Array.ensures.value w.build_array-built.ensures.built in
          let held = subst (λ u. IsBuilt (f u) w.build_array-built.result) inside built in
          subst (λ x. IsBuilt (literal_value choice x of) r) (sym is) (c.in_maybes.ensures.built f (subst (λ b. IsBuilt (f bare) b) (sym w.built-is) held))
      | build-in-Tuple w ↦
          let is = sym c.node.view_is ∙ ap syntax_of w.in-Tuple.is in
          let f = at_tuple (members_of choice (nodes_of w.in-Tuple.members.items)) in
          let built = subst (λ xs. IsBuilt (at_tuple (members_of choice (nodes_of xs)) (ty c.bare-inside.result)) w.build_tuple-built.result) w.as_slice-in-Tuple.ensures.value w.build_tuple-built.ensures.built in
          let held = subst (λ u. IsBuilt (f u) w.build_tuple-built.result) inside built in
          subst (λ x. IsBuilt (literal_value choice x of) r) (sym is) (c.in_maybes.ensures.built f (subst (λ b. IsBuilt (f bare) b) (sym w.built-is) held))
      | build-in-Dictionary w ↦
          let is = sym c.node.view_is ∙ ap syntax_of w.in-Dictionary.is in
          let f = at_array (entries choice (pairs_of w.in-Dictionary.pairs.items)) in
          let built = subst (λ ps. IsBuilt (at_array (entries choice (pairs_of ps)) (ty c.bare-inside.result)) w.build_dictionary-built.result) w.as_slice-in-Dictionary.ensures.value w.build_dictionary-built.ensures.built in
          let held = subst (λ u. IsBuilt (f u) w.build_dictionary-built.result) inside built in
          subst (λ x. IsBuilt (literal_value choice x of) r) (sym is) (c.in_maybes.ensures.built f (subst (λ b. IsBuilt (f bare) b) (sym w.built-is) held))
      | build-in-Entry w ↦
          let is = sym c.node.view_is ∙ ap syntax_of w.in-Entry.is in
          let f = at_entry (literal_value choice w.in-Entry.key.value) (literal_value choice w.in-Entry.value.value) in
          let key = subst (λ x. IsBuilt (at_entry (literal_value choice x) (literal_value choice w.deref-in-Entry.result.now) (ty c.bare-inside.result)) w.build_entry-built.result) w.deref.ensures w.build_entry-built.ensures.built in
          let built = subst (λ x. IsBuilt (at_entry (literal_value choice w.in-Entry.key.value) (literal_value choice x) (ty c.bare-inside.result)) w.build_entry-built.result) w.deref-in-Entry.ensures key in
          let held = subst (λ u. IsBuilt (f u) w.build_entry-built.result) inside built in
          subst (λ x. IsBuilt (literal_value choice x of) r) (sym is) (c.in_maybes.ensures.built f (subst (λ b. IsBuilt (f bare) b) (sym w.built-is) held))
      | build-in-Variant w ↦
          let is = sym c.node.view_is ∙ ap syntax_of w.in-Variant.is in
          let f = at_variant (only_one (chosen_or (literal_value choice w.in-Variant.content.value) (choice w.in-Variant.content.value))) in
          let fits = subst (λ x. Admits x of) is c.requires.fits in
          let type = fits_bare (λ u. u ≡ variant) of bare fits refl in
          let built = subst (λ x. IsBuilt (at_variant (only_one (chosen_or (literal_value choice x) (choice x))) variant) w.build_variant-built.result) w.deref-in-Variant.ensures w.build_variant-built.ensures.built in
          let held = subst (λ u. IsBuilt (f u) w.build_variant-built.result) (sym type) built in
          subst (λ x. IsBuilt (literal_value choice x of) r) (sym is) (c.in_maybes.ensures.built f (subst (λ b. IsBuilt (f bare) b) (sym w.built-is) held))
    ]

pub build-build_array-built-requires : goal.build-build_array-built-requires
build-build_array-built-requires t c =
    let is = sym c.node.view_is ∙ ap syntax_of c.in-Array.is in
    let deep = ap levels is ∙ list_levels _ in
    let same = ap (λ xs. greatest_levels (nodes_of xs)) c.as_slice-in-Array.ensures.value in
    let fits = subst (λ x. Admits x (ty c.args.of)) is c.requires.fits in
    let within = list_within _ (subst IsInLimits is c.requires.within) in
    let xs = c.as_slice-in-Array.ensures.value in (
      omega (arith, deep, same, c.decreases),
      (
        subst (λ ys. IsArrayOf (AllAdmit (nodes_of ys)) (ty c.bare-inside.result)) (sym xs)
            (fits_bare (IsArrayOf (AllAdmit (nodes_of c.in-Array.elements.items))) (ty c.args.of) _ fits c.bare-inside.ensures),
        subst (λ ys. AreWithin (nodes_of ys)) (sym xs) within,
      ),
    )

pub build-build_tuple-built-requires : goal.build-build_tuple-built-requires
build-build_tuple-built-requires t c =
    let is = sym c.node.view_is ∙ ap syntax_of c.in-Tuple.is in
    let deep = ap levels is ∙ tuple_levels _ in
    let same = ap (λ xs. greatest_levels (nodes_of xs)) c.as_slice-in-Tuple.ensures.value in
    let fits = subst (λ x. Admits x (ty c.args.of)) is c.requires.fits in
    let within = tuple_within _ (subst IsInLimits is c.requires.within) in
    let xs = c.as_slice-in-Tuple.ensures.value in
    (omega (arith, deep, same, c.decreases), (subst (λ ys. IsTupleOf (Admit (nodes_of ys)) (ty c.bare-inside.result)) (sym xs) (fits_bare (IsTupleOf (Admit (nodes_of c.in-Tuple.members.items))) (ty c.args.of) _ fits c.bare-inside.ensures), subst (λ ys. AreWithin (nodes_of ys)) (sym xs) within))

pub build-build_variant-built-requires : goal.build-build_variant-built-requires
build-build_variant-built-requires t c =
    let is = sym c.node.view_is ∙ ap syntax_of c.in-Variant.is in
    let content = c.deref-in-Variant.ensures in
    let within = box_within _ (subst IsInLimits is c.requires.within) in
    (omega (arith, ap levels is ∙ boxed_levels _, ap levels content, c.decreases), rw content within)

pub build-build_just-requires : goal.build-build_just-requires
build-build_just-requires t c =
    let is = sym c.node.view_is ∙ ap syntax_of c.in-Just.is in
    let child = c.deref-in-Just.ensures in
    let fits = subst (λ x. Admits x (ty c.args.of)) is c.requires.fits in
    let within = just_within _ (subst IsInLimits is c.requires.within) in
    (omega (arith, ap levels is ∙ just_levels _, ap levels child, c.decreases), (rw child fits, rw child within))

pub build-build-requires : goal.build-build-requires
build-build-requires t c =
    let is = sym c.node.view_is ∙ ap syntax_of c.in-OfType.is in
    let inner = c.deref-in-OfType.ensures in
    let fits = subst (λ x. Admits x (ty c.args.of)) is c.requires.fits in
    let within = of_type_within _ _ (subst IsInLimits is c.requires.within) in
    (omega (arith, ap levels is ∙ of_type_levels _ _, ap levels inner, c.decreases), (rw inner fits.1, rw inner within))

pub build-build-requires-in-Keyword : goal.build-build-requires-in-Keyword
build-build-requires-in-Keyword t c =
    let is = sym c.node.view_is ∙ ap syntax_of c.in-Keyword.is in
    let inner = c.deref-in-Keyword.ensures in
    let fits = subst (λ x. Admits x (ty c.args.of)) is c.requires.fits in
    let within = keyword_within _ _ (subst IsInLimits is c.requires.within) in
    (omega (arith, ap levels is ∙ keyword_levels _ _, ap levels inner, c.decreases), (rw inner fits.1, rw inner within))

pub build-build_dictionary-built-requires : goal.build-build_dictionary-built-requires
build-build_dictionary-built-requires t c =
    let is = sym c.node.view_is ∙ ap syntax_of c.in-Dictionary.is in
    let deep = ap levels is ∙ dictionary_levels _ in
    let same = ap (λ ps. pairs_levels (pairs_of ps)) c.as_slice-in-Dictionary.ensures.value in
    let fits = subst (λ x. Admits x (ty c.args.of)) is c.requires.fits in
    let within = dictionary_within _ (subst IsInLimits is c.requires.within) in
    let ps = pairs_of c.in-Dictionary.pairs.items in
    let xs = c.as_slice-in-Dictionary.ensures.value in (
      omega (arith, deep, same, c.decreases),
      (
        subst (λ ys. IsArrayOf (IsEntryOf (KeysAdmit (pairs_of ys)) (ValuesAdmit (pairs_of ys))) (ty c.bare-inside.result))
            (sym xs) (fits_bare (IsArrayOf (IsEntryOf (KeysAdmit ps) (ValuesAdmit ps))) (ty c.args.of) _ fits c.bare-inside.ensures),
        subst (λ ys. PairsWithin (pairs_of ys)) (sym xs) within,
      ),
    )

pub build-nothing-requires : goal.build-nothing-requires
build-nothing-requires t c =
    let fits = subst (λ x. Admits x (ty c.args.of)) (sym c.node.view_is ∙ ap syntax_of c.in-Nothing.is) c.requires.fits in
    let is = maybe_holds (λ u. Unit {0}) _ _ _ fits c.element.ensures c.unwrap.ensures in
    record { within = subst IsWithinLimits is.is (within_type _ c.args.of.spells_type) }

pub build-returns-in-Just-clause-built : goal.build-returns-in-Just-clause-built
unfolding literal_value
build-returns-in-Just-clause-built t c =
    let is = sym c.node.view_is ∙ ap syntax_of c.in-Just.is in
    let built : IsBuilt (at_maybe (λ u. only_one (literal_value choice c.in-Just.child.value u)) (ty c.args.of)) c.build_just.result = search rules in
    subst (λ x. IsBuilt (literal_value choice x (ty c.args.of)) c.build_just.result) (sym is) built

pub build-returns-in-Nothing-clause-built : goal.build-returns-in-Nothing-clause-built
unfolding literal_value
build-returns-in-Nothing-clause-built t c =
    let is = sym c.node.view_is ∙ ap syntax_of c.in-Nothing.is in
    let fits = subst (λ x. Admits x (ty c.args.of)) is c.requires.fits in
    let type = maybe_holds (λ u. Unit {0}) _ _ _ fits c.element.ensures c.unwrap.ensures in
    subst (λ x. IsBuilt (literal_value choice x (ty c.args.of)) c.nothing.result) (sym is)
    (subst (λ u. IsBuilt (at_maybe (λ v. Ok none) u) c.nothing.result) (sym type.is) c.nothing.ensures.built)

pub build-returns-in-OfType-clause-built : goal.build-returns-in-OfType-clause-built
unfolding literal_value
build-returns-in-OfType-clause-built t c =
    let is = sym c.node.view_is ∙ ap syntax_of c.in-OfType.is in
    let built : IsBuilt (literal_value choice c.in-OfType.inner.value (ty c.args.of)) c.build.result = search rules in
    subst (λ x. IsBuilt (literal_value choice x (ty c.args.of)) c.build.result) (sym is) built

pub build-returns-in-Keyword-clause-built : goal.build-returns-in-Keyword-clause-built
unfolding literal_value
build-returns-in-Keyword-clause-built t c =
    let is = sym c.node.view_is ∙ ap syntax_of c.in-Keyword.is in
    let built : IsBuilt (literal_value choice c.in-Keyword.inner.value (ty c.args.of)) c.build-in-Keyword.result = search rules in
    subst (λ x. IsBuilt (literal_value choice x (ty c.args.of)) c.build-in-Keyword.result) (sym is) built

pub build-build_entry-built-requires : goal.build-build_entry-built-requires
build-build_entry-built-requires t c =
    let is = sym c.node.view_is ∙ ap syntax_of c.in-Entry.is in
    let deep = ap levels is ∙ lone_levels c.in-Entry.key.value c.in-Entry.value.value in
    let key = c.deref.ensures in
    let value = c.deref-in-Entry.ensures in
    let fits = subst (λ x. Admits x (ty c.args.of)) is c.requires.fits in
    let within = entry_within _ _ (subst IsInLimits is c.requires.within) in
    let bare = fits_bare (IsEntryOf (Admits c.in-Entry.key.value) (Admits c.in-Entry.value.value)) (ty c.args.of) _ fits c.bare-inside.ensures in
    (omega (arith, deep, ap levels key, ap levels value, c.decreases), (rw (key, value) bare, (rw key within.0, rw value within.1)))

pub build_array-array-requires-clause-typed : goal.build_array-array-requires-clause-typed
build_array-array-requires-clause-typed t c = all_of_type (ty c.unwrap-element.result) (elements choice (nodes_of c.args.nodes.now) (ty c.unwrap-element.result)) c.in_ok-children.children (elements_typed choice (nodes_of c.args.nodes.now) (ty c.unwrap-element.result)) c.in_ok-children.ensures

pub build_array-array-requires-clause-within : goal.build_array-array-requires-clause-within
build_array-array-requires-clause-within t c =
    let is = array_holds (AllAdmit (nodes_of c.args.nodes.now)) _ _ _ c.requires.fits c.element.ensures c.unwrap-element.ensures in
    subst IsWithinLimits is.is (within_type _ c.args.of.spells_type)

pub build_dictionary-array-requires-clause-typed : goal.build_dictionary-array-requires-clause-typed
build_dictionary-array-requires-clause-typed t c = all_of_type (ty c.unwrap-of.result) (entries choice (pairs_of c.args.pairs.now) (ty c.unwrap-of.result)) c.in_ok-children.children (entries_typed choice (pairs_of c.args.pairs.now) (ty c.unwrap-of.result)) c.in_ok-children.ensures

pub build_dictionary-array-requires-clause-within : goal.build_dictionary-array-requires-clause-within
build_dictionary-array-requires-clause-within t c =
    let is = array_holds (IsEntryOf (KeysAdmit (pairs_of c.args.pairs.now)) (ValuesAdmit (pairs_of c.args.pairs.now))) _ _ _ c.requires.fits c.element.ensures c.unwrap-of.ensures in
    subst IsWithinLimits is.is (within_type _ c.args.of.spells_type)

pub build_elements-build-requires : goal.build_elements-build-requires
build_elements-build-requires t c =
    let less = levels_at c.args.nodes.now c.loop-node.node-index c.node-item.result c.loop-node-test.true c.node-item.is in
    let item = drop_item c.args.nodes.now c.loop-node.node-index c.node-item.result c.loop-node-test.true c.node-item.is in
    let fits = subst (λ xs. AllAdmit (nodes_of xs) (ty c.args.of)) item c.loop-node.invariant.fits in
    let within = subst (λ xs. AreWithin (nodes_of xs)) item c.loop-node.invariant.within in
    (omega (arith, less, c.decreases), (fits.0, within.0))

pub build_elements-returns-in_err-build : goal.build_elements-returns-in_err-build
unfolding literal_value
build_elements-returns-in_err-build t c =
    let item = drop_item c.args.nodes.now c.loop-node.node-index c.node-item.result c.loop-node-test.true c.node-item.is in
    let p = err_from_is_err_and c.from_residual-in_err-build.result c.from_residual-in_err-build.ensures.1 in
    rw (p.1, p.2) (held_fault _ _ (elements choice (nodes_of (drop (c.loop-node.node-index + 1) c.args.nodes.now)) (ty c.args.of))
    (literal_value choice c.node-item.result (ty c.args.of)) c.loop-node.children c.in_err-build.field-0.0 c.loop-node.invariant.held
    (ap (λ xs. elements choice (nodes_of xs) (ty c.args.of)) item) c.in_err-build.ensures.built)

pub build_elements-loop-node-preserved : goal.build_elements-loop-node-preserved
unfolding literal_value
build_elements-loop-node-preserved t c =
    let item = drop_item c.args.nodes.now c.loop-node.node-index c.node-item.result c.loop-node-test.true c.node-item.is in
    let fits = subst (λ xs. AllAdmit (nodes_of xs) (ty c.args.of)) item c.loop-node.invariant.fits in
    let within = subst (λ xs. AreWithin (nodes_of xs)) item c.loop-node.invariant.within in
    record {
      held = held_next _ _ (elements choice (nodes_of (drop (c.loop-node.node-index + 1) c.args.nodes.now)) (ty c.args.of))
          (literal_value choice c.node-item.result (ty c.args.of)) c.loop-node.children c.push.new.self c.in_ok-build.field-0 c.loop-node.invariant.held
          (ap (λ xs. elements choice (nodes_of xs) (ty c.args.of)) item) c.in_ok-build.ensures.built c.in_ok-push.ensures;
      fits = fits.1;
      within = within.1;
    }

pub build_elements-returns : goal.build_elements-returns
unfolding literal_value
build_elements-returns t c =
    let past = drop_all c.loop-node.node-index c.args.nodes.now (omega (arith, c.loop-node-test.false)) in
    held_all _ _ c.loop-node.children c.finish.result c.loop-node.invariant.held (ap (λ xs. elements choice (nodes_of xs) (ty c.args.of)) past) c.finish.ensures

pub build_entries-build_entry-requires : goal.build_entries-build_entry-requires
build_entries-build_entry-requires t c =
    let less = pair_levels_at c.args.pairs.now c.loop-key.key-index c.loop-key-item.result c.loop-key-test.true c.loop-key-item.is in
    let item = drop_item c.args.pairs.now c.loop-key.key-index c.loop-key-item.result c.loop-key-test.true c.loop-key-item.is in
    let fits = pair_fits _ _ _ _ (subst (λ ps. IsEntryOf (KeysAdmit (pairs_of ps)) (ValuesAdmit (pairs_of ps)) (ty c.args.of)) item c.loop-key.invariant.fits) in
    let within = subst (λ ps. PairsWithin (pairs_of ps)) item c.loop-key.invariant.within in
    (omega (arith, less.0, less.1, c.decreases), (fits.0, (within.0, within.1)))

pub build_entries-returns-in_err-build_entry : goal.build_entries-returns-in_err-build_entry
unfolding literal_value
build_entries-returns-in_err-build_entry t c =
    let item = drop_item c.args.pairs.now c.loop-key.key-index c.loop-key-item.result c.loop-key-test.true c.loop-key-item.is in
    let p = err_from_is_err_and c.from_residual-in_err-build_entry.result c.from_residual-in_err-build_entry.ensures.1 in
    rw (p.1, p.2) (held_fault _ _ (entries choice (pairs_of (drop (c.loop-key.key-index + 1) c.args.pairs.now)) (ty c.args.of))
    (at_entry (literal_value choice c.loop-key-item.result.0) (literal_value choice c.loop-key-item.result.1) (ty c.args.of)) c.loop-key.children
    c.in_err-build_entry.field-0.0 c.loop-key.invariant.held (ap (λ ps. entries choice (pairs_of ps) (ty c.args.of)) item) c.in_err-build_entry.ensures.built)

pub build_entries-loop-key-preserved : goal.build_entries-loop-key-preserved
unfolding literal_value
build_entries-loop-key-preserved t c =
    let item = drop_item c.args.pairs.now c.loop-key.key-index c.loop-key-item.result c.loop-key-test.true c.loop-key-item.is in
    let fits = pair_fits _ _ _ _ (subst (λ ps. IsEntryOf (KeysAdmit (pairs_of ps)) (ValuesAdmit (pairs_of ps)) (ty c.args.of)) item c.loop-key.invariant.fits) in
    let within = subst (λ ps. PairsWithin (pairs_of ps)) item c.loop-key.invariant.within in
    record {
      held = held_next _ _ (entries choice (pairs_of (drop (c.loop-key.key-index + 1) c.args.pairs.now)) (ty c.args.of))
          (at_entry (literal_value choice c.loop-key-item.result.0) (literal_value choice c.loop-key-item.result.1) (ty c.args.of)) c.loop-key.children c.push.new.self
          c.in_ok-build_entry.field-0 c.loop-key.invariant.held (ap (λ ps. entries choice (pairs_of ps) (ty c.args.of)) item) c.in_ok-build_entry.ensures.built
          c.in_ok-push.ensures;
      fits = fits.1;
      within = within.2;
    }

pub build_entries-returns : goal.build_entries-returns
unfolding literal_value
build_entries-returns t c =
    let past = drop_all c.loop-key.key-index c.args.pairs.now (omega (arith, c.loop-key-test.false)) in
    held_all _ _ c.loop-key.children c.finish.result c.loop-key.invariant.held (ap (λ ps. entries choice (pairs_of ps) (ty c.args.of)) past) c.finish.ensures

pub build_entry-returns-clause-built : goal.build_entry-returns-clause-built
build_entry-returns-clause-built t c =
    entry_built (literal_value choice c.args.key.now) (literal_value choice c.args.value.now)
    (ty c.args.of) c.entry_types.result c.unwrap.result c.in_ok-key.key c.in_ok-value.value c.entry.result c.entry_types.ensures c.unwrap.ensures
    c.in_ok-key.ensures.built c.in_ok-value.ensures.built c.entry.ensures.built

pub build_just-just-requires-clause-within : goal.build_just-just-requires-clause-within
build_just-just-requires-clause-within t c =
    let is = maybe_holds (Admits c.args.node.now) _ _ _ c.requires.fits c.element.ensures c.unwrap-inner.ensures in
    subst IsWithinLimits is.is (within_type _ c.args.of.spells_type)

pub build_just-returns-clause-built : goal.build_just-returns-clause-built
build_just-returns-clause-built t c =
    let is = maybe_holds (Admits c.args.node.now) _ _ _ c.requires.fits c.element.ensures c.unwrap-inner.ensures in
    just_built (literal_value choice c.args.node.now) (ty c.args.of) (ty c.unwrap-inner.result) c.in_ok-child.child c.just.result is.is c.in_ok-child.ensures.built c.just.ensures.built

pub build_members-loop-node-init : goal.build_members-loop-node-init
build_members-loop-node-init t c =
    let same : types_from (members_left c.members-types.result) ≡ members (ty c.args.of) = ap types_from (search rules) ∙ types_from-listed (members (ty c.args.of)) in
    record {
      held = held_none _ _ c.in_ok-children.children (ap (members_of choice (nodes_of c.args.nodes.now)) (sym same)) c.in_ok-children.ensures;
      fits = rw same c.requires.fits;
      within = c.requires.within;
    }

pub build_members-build-requires : goal.build_members-build-requires
build_members-build-requires t c =
    let less = levels_at c.args.nodes.now c.loop-node.node-index c.node-item.result c.loop-node-test.true c.node-item.is in
    let item = drop_item c.args.nodes.now c.loop-node.node-index c.node-item.result c.loop-node-test.true c.node-item.is in
    let step : members_left c.loop-node.types ≡ ty c.unwrap-of.result ∷ members_left c.next.new.self = search rules in
    let fits = subst (λ ts. Admit (nodes_of (c.node-item.result ∷ drop (c.loop-node.node-index + 1) c.args.nodes.now)) (types_from ts)) step (subst (λ xs. Admit (nodes_of xs) (types_from (members_left c.loop-node.types))) item c.loop-node.invariant.fits) in
    let within = subst (λ xs. AreWithin (nodes_of xs)) item c.loop-node.invariant.within in
    (omega (arith, less, c.decreases), (fits.0, within.0))

pub build_members-returns-in_err-build : goal.build_members-returns-in_err-build
unfolding literal_value
build_members-returns-in_err-build t c =
    let item = drop_item c.args.nodes.now c.loop-node.node-index c.node-item.result c.loop-node-test.true c.node-item.is in
    let step : members_left c.loop-node.types ≡ ty c.unwrap-of.result ∷ members_left c.next.new.self = search rules in
    let is = ap (λ xs. members_of choice (nodes_of xs) (types_from (members_left c.loop-node.types))) item ∙ ap (λ ts. members_of choice (nodes_of (c.node-item.result ∷ drop (c.loop-node.node-index + 1) c.args.nodes.now)) (types_from ts)) step in
    let p = err_from_is_err_and c.from_residual-in_err-build.result c.from_residual-in_err-build.ensures.1 in
    rw (p.1, p.2) (held_fault _ _ (members_of choice (nodes_of (drop (c.loop-node.node-index + 1) c.args.nodes.now)) (types_from (members_left c.next.new.self)))
    (literal_value choice c.node-item.result (ty c.unwrap-of.result)) c.loop-node.children c.in_err-build.field-0.0 c.loop-node.invariant.held is
    c.in_err-build.ensures.built)

pub build_members-loop-node-preserved : goal.build_members-loop-node-preserved
unfolding literal_value
build_members-loop-node-preserved t c =
    let item = drop_item c.args.nodes.now c.loop-node.node-index c.node-item.result c.loop-node-test.true c.node-item.is in
    let step : members_left c.loop-node.types ≡ ty c.unwrap-of.result ∷ members_left c.next.new.self = search rules in
    let fits = subst (λ ts. Admit (nodes_of (c.node-item.result ∷ drop (c.loop-node.node-index + 1) c.args.nodes.now)) (types_from ts)) step (subst (λ xs. Admit (nodes_of xs) (types_from (members_left c.loop-node.types))) item c.loop-node.invariant.fits) in
    let within = subst (λ xs. AreWithin (nodes_of xs)) item c.loop-node.invariant.within in
    let is = ap (λ xs. members_of choice (nodes_of xs) (types_from (members_left c.loop-node.types))) item ∙ ap (λ ts. members_of choice (nodes_of (c.node-item.result ∷ drop (c.loop-node.node-index + 1) c.args.nodes.now)) (types_from ts)) step in
    record {
      held = held_next _ _ (members_of choice (nodes_of (drop (c.loop-node.node-index + 1) c.args.nodes.now)) (types_from (members_left c.next.new.self)))
          (literal_value choice c.node-item.result (ty c.unwrap-of.result)) c.loop-node.children c.push.new.self c.in_ok-build.field-0 c.loop-node.invariant.held is
          c.in_ok-build.ensures.built c.in_ok-push.ensures;
      fits = fits.1;
      within = within.1;
    }

pub build_members-returns : goal.build_members-returns
unfolding literal_value
build_members-returns t c =
    let past = drop_all c.loop-node.node-index c.args.nodes.now (omega (arith, c.loop-node-test.false)) in
    held_all _ _ c.loop-node.children c.finish.result c.loop-node.invariant.held (ap (λ xs. members_of choice (nodes_of xs) (types_from (members_left c.loop-node.types))) past) c.finish.ensures

pub build_tuple-tuple-requires : goal.build_tuple-tuple-requires
build_tuple-tuple-requires t c = are_members choice (nodes_of c.args.nodes.now) (ty c.args.of) c.in_ok-children.children c.requires.fits c.in_ok-children.ensures

pub build_variant-build-requires : goal.build_variant-build-requires
build_variant-build-requires t c =
    let type = c.as_type.ensures in
    let chosen = subst (Chooses c.args.node.now) c.in-Ok.ensures.chosen (choice_right c.args.node.now) in
    (omega (arith, c.decreases), (rw type chosen.among.admits, c.requires))

pub build_variant-returns-in-Err-clause-built : goal.build_variant-returns-in-Err-clause-built
build_variant-returns-in-Err-clause-built t c = variant_fault c.args.node.now c.in-Err.fault c.into_fault.result c.in-Err.ensures.fault c.into_fault.ensures
