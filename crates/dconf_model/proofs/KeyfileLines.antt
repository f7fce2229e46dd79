-- What the lines of a dump are read as: a heading, and a key with its text.
use Rattle.std.specs.Prelude.{◌≡◌, ℕ, ◌+◌, ◌-◌, Bool, true, false, not, ◌&&◌, ◌||◌, ◌==◌, nat_eq, nat_lt, List, [], ◌∷◌, ◌++◌, length, take, drop, codes, Option, Some, None, refl, filter_map}
use Rattle.std.specs.List.{list_any, last_or, prefix_len, suffix_len, before_first, after_first}
use Rattle.std.specs.Str.{bytes_eq}
use Rattle.std.specs.Cmp.Lexicographic.{bytes_decides}
use Rattle.std.proofs.Common.{sym, ap, subst, ◌∙◌, inl, inr, arith, cond}
use Rattle.std.proofs.lemmas.Bool.{true≢false, and_parts, not-true, or_cases, or_parts, ne_eqb, eqb-true}
use Rattle.std.proofs.lemmas.List.{append-nil, length-append, take_at, drop_at}
use Rattle.std.proofs.lemmas.List.Elements.{filter_map-append}
use Rattle.std.proofs.lemmas.List.Folds.{list_any-append}
use Rattle.gv_model.specs.Texts.{has_zero_byte}
use Rattle.dconf_model.specs.Lines.{LineReading, is_line_blank, is_space, without_start, without_end}
use Rattle.dconf_model.specs.Lines.LineReading.{nothing, found}
use Rattle.dconf_model.specs.Keyfiles.{Row, is_control, is_plain, is_group, is_key, is_equals, is_readable_key, is_one_line, without_blanks, begins_with, ends_in, line_kind, group_in, group_named, last_group, row_of, row_if, line_read, or_bad_group}
use Rattle.dconf_model.specs.Keyfiles.LineKind.{bracket, entry}
use Rattle.dconf_model.proofs.Trimmed.{both_whole, end_whole, start_whole, end_none, start_none, end_stops, start_stops, before_it, after_it, no_such_byte}
use Rattle.dconf_model.proofs.EndedLines.{HasNoFeed}

-- a line, read after others
abbrev pub read_one : List (List ℕ) → List ℕ → LineReading Row
read_one earlier line = line_read (line_kind (without_blanks line)) earlier (without_blanks line)

abbrev pub head_line : List ℕ → List ℕ
head_line g = 91 ∷ (g ++ 93 ∷ [])

abbrev pub row_line : List ℕ → List ℕ → List ℕ
row_line key text = key ++ 61 ∷ text

abbrev pub is_special : ℕ → Bool
is_special c = c == 91 || (c == 93 || is_control c)

plain : (s : List ℕ) → is_plain s ≡ true → list_any is_special s ≡ false
plain s e = not-true (list_any is_special s) e

not_empty : (c : ℕ) (s : List ℕ) → (length (c ∷ s) == 0) ≡ false
not_empty c s = ne_eqb (length (c ∷ s)) 0 (λ e. omega (arith, e))

-- ---- groups of lines

last_after : (o : Option (List ℕ)) (gs : List (List ℕ)) (g : List ℕ) → last_or o (gs ++ g ∷ []) ≡ Some g
last_after o [] g = refl
last_after o (x ∷ gs) g = last_after (Some x) gs g

abbrev pub named : List ℕ → Option (List ℕ)
named line = group_named (line_kind (without_blanks line)) (without_blanks line)

pub group_stays : (earlier : List (List ℕ)) (line : List ℕ) → named line ≡ None → last_group (earlier ++ line ∷ []) ≡ last_group earlier
group_stays earlier line e =
    ap (last_or None) (filter_map-append named earlier (line ∷ [])) ∙ go
  where
    go : last_or None (filter_map named earlier ++ filter_map named (line ∷ [])) ≡ last_or None (filter_map named earlier)
    go = rw e (ap (last_or None) (append-nil (filter_map named earlier)))

pub group_comes : (earlier : List (List ℕ)) (line g : List ℕ) → named line ≡ Some g → last_group (earlier ++ line ∷ []) ≡ Some g
group_comes earlier line g e =
    ap (last_or None) (filter_map-append named earlier (line ∷ [])) ∙ go
  where
    go : last_or None (filter_map named earlier ++ filter_map named (line ∷ [])) ≡ Some g
    go = rw e (last_after None (filter_map named earlier) g)

-- ---- an empty line

pub read_empty : (earlier : List (List ℕ)) → read_one earlier [] ≡ nothing
read_empty earlier = refl

pub empty_stays : (earlier : List (List ℕ)) → last_group (earlier ++ [] ∷ []) ≡ last_group earlier
empty_stays earlier = group_stays earlier [] refl

-- ---- a heading

meant_head : (g : List ℕ) → without_blanks (head_line g) ≡ head_line g
meant_head g = both_whole is_space is_line_blank (head_line g) refl (end_stops is_line_blank (91 ∷ g) 93 [] refl refl)

kind_head : (g : List ℕ) → line_kind (head_line g) ≡ bracket
kind_head g = rw (not_empty 91 (g ++ 93 ∷ [])) refl

pub inside_head : (g : List ℕ) → take (length (head_line g) - 2) (drop 1 (head_line g)) ≡ g
inside_head g = let long = length-append g (93 ∷ []) in take_at g (93 ∷ []) (length (head_line g) - 2) (omega (arith, long))

pub ends_head : (g : List ℕ) → ends_in 93 (head_line g) ≡ true
ends_head g =
    let long = length-append g (93 ∷ []) in
    let last : drop (length (head_line g) - 1) (head_line g) ≡ 93 ∷ [] = drop_at (91 ∷ g) (93 ∷ []) (length (head_line g) - 1) (omega (arith, long)) in
    rw last refl

group_in_head : (g : List ℕ) → is_group g ≡ true → group_in (head_line g) ≡ Some g
group_in_head g h = rw (inside_head g, ends_head g, h) refl

pub read_head : (earlier : List (List ℕ)) (g : List ℕ) → is_group g ≡ true → read_one earlier (head_line g) ≡ nothing
read_head earlier g h =
    ap (λ s. line_read (line_kind s) earlier s) (meant_head g) ∙ ap (λ k. line_read k earlier (head_line g)) (kind_head g) ∙ ap or_bad_group (group_in_head g h)

pub head_comes : (earlier : List (List ℕ)) (g : List ℕ) → is_group g ≡ true → last_group (earlier ++ head_line g ∷ []) ≡ Some g
head_comes earlier g h =
    group_comes earlier (head_line g) g (ap (λ s. group_named (line_kind s) s) (meant_head g) ∙ ap (λ k. group_named k (head_line g)) (kind_head g) ∙ group_in_head g h)

-- ---- keys and texts that fit on a line

pub record KeyParts (s : List ℕ) : Type 0 where
  pub key : is_key s ≡ true
  pub filled : nat_lt 0 (length s) ≡ true
  pub special : list_any is_special s ≡ false
  pub equals : list_any is_equals s ≡ false
  pub mark : begins_with 35 s ≡ false
  pub start : prefix_len is_space s ≡ 0
  pub ending : suffix_len is_space s ≡ 0

pub key_parts : (s : List ℕ) → is_readable_key s ≡ true → KeyParts s
key_parts s e =
    let outer = and_parts (is_key s && not (list_any is_equals s) && not (begins_with 35 s)) _ e in
    let inner = and_parts (is_key s && not (list_any is_equals s)) (not (begins_with 35 s)) outer.0 in
    let first = and_parts (is_key s) (not (list_any is_equals s)) inner.0 in
    let named = and_parts (nat_lt 0 (length s) && not (list_any (λ c. c == 47) s)) (is_plain s) first.0 in
    let whole = (bytes_decides (without_start is_space (without_end is_space s)) s).0 outer.1 in
    record {
      key = first.0;
      filled = (and_parts (nat_lt 0 (length s)) _ named.0).0;
      special = plain s named.1;
      equals = not-true (list_any is_equals s) first.1;
      mark = not-true (begins_with 35 s) inner.1;
      start = start_none is_space is_space s whole;
      ending = end_none is_space is_space s whole;
    }

pub record TextParts (s : List ℕ) : Type 0 where
  pub feed : HasNoFeed s
  pub nul : has_zero_byte s ≡ false
  pub start : prefix_len is_space s ≡ 0
  pub ending : suffix_len is_line_blank s ≡ 0

less_start : (s : List ℕ) → prefix_len is_line_blank s ≡ 0 → prefix_len is_space s ≡ 0
less_start [] h = refl
less_start (c ∷ s) h = go (is_line_blank c) refl h
  where
    go : (b : Bool) → is_line_blank c ≡ b → cond b (1 + prefix_len is_line_blank s) 0 ≡ 0 → cond (is_space c) (1 + prefix_len is_space s) 0 ≡ 0
    go true same more = let false_now : ⊥ = omega (arith, more) in absurd false_now
    go false same more = rw (or_parts (is_space c) (c == 13) same).0 refl

abbrev is_feed_or_nul : ℕ → Bool
is_feed_or_nul c = c == 10 || c == 0

pub text_parts : (s : List ℕ) → is_one_line s ≡ true → TextParts s
text_parts s e =
    let parts = and_parts (not (list_any is_feed_or_nul s)) _ e in
    let none_of = not-true (list_any is_feed_or_nul s) parts.0 in
    let whole = (bytes_decides (without_start is_line_blank (without_end is_line_blank s)) s).0 parts.1 in
    record {
      feed = no_such_byte is_feed_or_nul 10 s refl none_of;
      nul = no_such_byte is_feed_or_nul 0 s refl none_of;
      start = less_start s (start_none is_line_blank is_line_blank s whole);
      ending = end_none is_line_blank is_line_blank s whole;
    }

-- ---- a key with its text

meant_row : (key text : List ℕ) → KeyParts key → TextParts text → without_blanks (row_line key text) ≡ row_line key text
meant_row key text k t = both_whole is_space is_line_blank (row_line key text) (start_stops is_space key 61 text k.start refl) (end_stops is_line_blank key 61 text t.ending refl)

not_bracket : (c : ℕ) → is_special c ≡ false → (nat_eq 91 c && true) ≡ false
not_bracket c e = go (nat_eq 91 c) refl
  where
    go : (b : Bool) → nat_eq 91 c ≡ b → (b && true) ≡ false
    go true same = absurd (true≢false (ap is_special (eqb-true 91 c same) ∙ e))
    go false same = refl

kind_row : (key text : List ℕ) → KeyParts key → line_kind (row_line key text) ≡ entry
kind_row [] text k = absurd (true≢false (sym k.filled))
kind_row (c ∷ key) text k =
    rw (not_empty c (row_line key text), k.mark, not_bracket c (or_parts (is_special c) (list_any is_special key) k.special).0) refl

has_equals : (key text : List ℕ) → KeyParts key → list_any is_equals (row_line key text) ≡ true
has_equals key text k = rw (list_any-append is_equals key (61 ∷ text), k.equals) refl

has_no_nul : (key text : List ℕ) → KeyParts key → TextParts text → has_zero_byte (row_line key text) ≡ false
has_no_nul key text k t = rw (list_any-append (λ c. c == 0) key (61 ∷ text), no_such_byte is_special 0 key refl k.special, t.nul) refl

pub row_feedless : (key text : List ℕ) → KeyParts key → TextParts text → HasNoFeed (row_line key text)
row_feedless key text k t = rw (list_any-append (λ c. c == 10) key (61 ∷ text), no_such_byte is_special 10 key refl k.special, t.feed) refl

abbrev pub row_at : ℕ → List ℕ → List ℕ → List ℕ → Row
row_at n g key text = record { line = n; group = g; key = key; text = text }

row_is : (n : ℕ) (g key text : List ℕ) → KeyParts key → TextParts text → row_of n g (row_line key text) ≡ row_at n g key text
row_is n g key text k t =
    let named : without_end is_space (before_first is_equals (row_line key text)) ≡ key =
    ap (without_end is_space) (before_it is_equals key 61 text k.equals refl) ∙ end_whole is_space key k.ending in
    let valued : without_start is_space (after_first is_equals (row_line key text)) ≡ text =
    ap (without_start is_space) (after_it is_equals key 61 text k.equals refl) ∙ start_whole is_space text t.start in
    λ i. record { line = n; group = g; key = named i; text = valued i }

read_entry : (earlier : List (List ℕ)) (g key text : List ℕ) → KeyParts key → TextParts text → last_group earlier ≡ Some g →
    line_read entry earlier (row_line key text) ≡ found (row_at (length earlier + 1) g key text)
read_entry earlier g key text k t same =
    rw (has_equals key text k, has_no_nul key text k t, same) (ap row_if (row_is (length earlier + 1) g key text k t) ∙ kept)
  where
    kept : row_if (row_at (length earlier + 1) g key text) ≡ found (row_at (length earlier + 1) g key text)
    kept = rw k.key refl

pub read_row : (earlier : List (List ℕ)) (g key text : List ℕ) → KeyParts key → TextParts text → last_group earlier ≡ Some g →
    read_one earlier (row_line key text) ≡ found (row_at (length earlier + 1) g key text)
read_row earlier g key text k t same =
    ap (λ s. line_read (line_kind s) earlier s) (meant_row key text k t) ∙ ap (λ kind. line_read kind earlier (row_line key text)) (kind_row key text k) ∙ read_entry earlier g key text k t same

pub row_stays : (earlier : List (List ℕ)) (key text : List ℕ) → KeyParts key → TextParts text → last_group (earlier ++ row_line key text ∷ []) ≡ last_group earlier
row_stays earlier key text k t =
    group_stays earlier (row_line key text) (ap (λ s. group_named (line_kind s) s) (meant_row key text k t) ∙ ap (λ kind. group_named kind (row_line key text)) (kind_row key text k))

-- ---- no line feed in a group

pub group_feedless : (g : List ℕ) → is_group g ≡ true → HasNoFeed g
group_feedless g h = elim (or_cases (bytes_eq g (codes "/")) _ h) [
  | inl e ↦ subst HasNoFeed (sym ((bytes_decides g (codes "/")).0 e)) refl
  | inr e ↦ no_such_byte is_special 10 g refl (plain g (and_parts _ (is_plain g) e).1)
]

pub head_feedless : (g : List ℕ) → is_group g ≡ true → HasNoFeed (head_line g)
head_feedless g h = rw (list_any-append (λ c. c == 10) g (93 ∷ []), group_feedless g h) refl
