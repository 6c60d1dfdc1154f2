-- What came on the other output tells the line of the one fault that stands behind the warnings.
use Rattle.std.proofs.Common.{◌≡◌, ◌≢◌, ◌+◌, ◌-◌, ◌*◌, ◌/◌, ◌%◌, ◌∙◌, ◌==◌, ◌&&◌, not, ℕ, zero, suc, Bool}
use Rattle.std.proofs.Common.{true, false, List, [], ◌∷◌, ◌++◌, Option, None, Some, cond, codes, decimal}
use Rattle.std.proofs.Common.{get_or, refl, ap, sym, append_assoc, arith, ne_eqb, nat_lt, filter}
use Rattle.std.proofs.Common.{if◌then◌else◌, drop, length}
use Rattle.std.specs.Fmt.{digits, digits_onto, digit_glyph}
use Rattle.std.specs.List.{list_all, flat_map}
use Rattle.std.proofs.Math.Seq.{drop-append_seam}
use Rattle.std.proofs.lemmas.List.Folds.{list_all-append}
use Rattle.dt_base.specs.declared.fault.Code.{Code}
use Rattle.dt_base.specs.declared.fault.Code.TheVariants.{E01, E02, E03, E04, E05, E06, E07, E08, E09, E10}
use Rattle.dt_base.specs.declared.fault.Code.TheVariants.{E11, E12, E13, E14, E15, E16, E17, E18, E19, E20}
use Rattle.dt_base.specs.declared.fault.Code.TheVariants.{E21, E22, E23, E24}
use Rattle.dt_base.specs.declared.fault.Fault.{Fault}
use Rattle.dt_base.specs.declared.warns.Warn.{Warn}
use Rattle.dt_base.specs.declared.warns.Warn.TheVariants.{W01, W02, W03, W04, W05, W06}
use Rattle.dt_base.specs.declared.warns.Warns.{Warns}
use Rattle.dt_base.specs.Warns.{has_warn}
use Rattle.dt_session.specs.Lines.{warned_lines, EndsInFault, OneFault}
use Rattle.run_model.specs.Messages.{all_warnings, code_name, line_start, printed_fault, printed_warns}
use Rattle.run_model.specs.Messages.{text_of, warn_line, warn_name, warn_text}

-- from the first line on that begins with `E`; whether a line begins here
abbrev fault_from : List ℕ → Bool → List ℕ
fault_from [] starts = []
fault_from (x ∷ xs) false = fault_from xs (x == 10)
fault_from (x ∷ xs) true = cond (x == 69) (x ∷ xs) (fault_from xs (x == 10))

-- no end of a line
abbrev is_inner : ℕ → Bool
is_inner x = not (x == 10)

both_inner : (xs ys : List ℕ) → list_all is_inner xs ≡ true → list_all is_inner ys ≡ true
    → list_all is_inner (xs ++ ys) ≡ true
both_inner xs ys h k = rw (list_all-append is_inner xs ys, h, k) refl

-- digits end no line
above_ten : (n d : ℕ) → is_inner (11 + n + d) ≡ true
above_ten n d = let other : 11 + n + d ≢ 10 = λ e. omega (arith, e) in rw (ne_eqb (11 + n + d) 10 other) refl

pick_inner : (b : Bool) (x y : ℕ) → is_inner x ≡ true → is_inner y ≡ true → is_inner (cond b x y) ≡ true
pick_inner true x y h k = h
pick_inner false x y h k = k

glyph_inner : (d : ℕ) → is_inner (digit_glyph false d) ≡ true
glyph_inner d = pick_inner (nat_lt d 10) (48 + d) (87 + d) (above_ten 37 d) (above_ten 76 d)

pick_all : (b : Bool) (xs ys : List ℕ) → list_all is_inner xs ≡ true → list_all is_inner ys ≡ true
    → list_all is_inner (cond b xs ys) ≡ true
pick_all true xs ys h k = h
pick_all false xs ys h k = k

digits_inner : (k n : ℕ) (acc : List ℕ) → list_all is_inner acc ≡ true
    → list_all is_inner (digits_onto k 10 false n acc) ≡ true
digits_inner zero n acc h = h
digits_inner (suc k) n acc h =
    let more : list_all is_inner (digit_glyph false (n % 10) ∷ acc) ≡ true = rw (glyph_inner (n % 10), h) refl in
    pick_all (n / 10 == 0) (digit_glyph false (n % 10) ∷ acc)
    (digits_onto k 10 false (n / 10) (digit_glyph false (n % 10) ∷ acc)) more
    (digits_inner k (n / 10) (digit_glyph false (n % 10) ∷ acc) more)

decimal_inner : (n : ℕ) → list_all is_inner (decimal n) ≡ true
unfolding digits
decimal_inner n = digits_inner 64 n [] refl

past_byte : (b : Bool) (xs rest : List ℕ)
    → (list_all is_inner xs ≡ true → fault_from (xs ++ 10 ∷ rest) false ≡ fault_from rest true)
    → (not b && list_all is_inner xs) ≡ true → fault_from (xs ++ 10 ∷ rest) b ≡ fault_from rest true
past_byte true xs rest past h = cc
past_byte false xs rest past h = past h

-- the rest of a line is passed over
past_line : (xs rest : List ℕ) → list_all is_inner xs ≡ true → fault_from (xs ++ 10 ∷ rest) false ≡ fault_from rest true
past_line [] rest h = refl
past_line (x ∷ xs) rest h = past_byte (x == 10) xs rest (past_line xs rest) h

-- the parts of a line, the end of which stands before the rest
six_parts : (k n a d c t rest : List ℕ)
    → ((k ++ n ++ a ++ d ++ c) ++ t ++ 10 ∷ []) ++ rest ≡ (k ++ n ++ a ++ d ++ c ++ t) ++ 10 ∷ rest
six_parts k n a d c t rest = simp append_assoc

-- a line that begins with `W`, whose parts are these
past_parts : (k n a d c t rest : List ℕ) → list_all is_inner k ≡ true → list_all is_inner n ≡ true
    → list_all is_inner a ≡ true → list_all is_inner d ≡ true → list_all is_inner c ≡ true
    → list_all is_inner t ≡ true
    → fault_from ((((87 ∷ k) ++ n ++ a ++ d ++ c) ++ t ++ 10 ∷ []) ++ rest) true ≡ fault_from rest true
past_parts k n a d c t rest hk hn ha hd hc ht =
    let inner : list_all is_inner (k ++ n ++ a ++ d ++ c ++ t) ≡ true =
    both_inner (k ++ n ++ a ++ d ++ c) t
    (both_inner (k ++ n ++ a ++ d) c
    (both_inner (k ++ n ++ a) d (both_inner (k ++ n) a (both_inner k n hk hn) ha) hd) hc) ht in
    ap (λ xs. fault_from xs true) (six_parts (87 ∷ k) n a d c t rest)
    ∙ past_line (k ++ n ++ a ++ d ++ c ++ t) rest inner

-- nor do the words of a warning
name_inner : (w : Warn) → list_all is_inner (warn_name w) ≡ true
name_inner W01 = refl
name_inner W02 = refl
name_inner W03 = refl
name_inner W04 = refl
name_inner W05 = refl
name_inner W06 = refl

text_inner : (w : Warn) → list_all is_inner (warn_text w) ≡ true
text_inner W01 = refl
text_inner W02 = refl
text_inner W03 = refl
text_inner W04 = refl
text_inner W05 = refl
text_inner W06 = refl

-- the line of a warning is passed over
past_warn : (line : ℕ) (w : Warn) (rest : List ℕ) → fault_from (warn_line line w ++ rest) true ≡ fault_from rest true
past_warn line w rest =
    past_parts (codes "arning ") (warn_name w) (codes " at line ") (decimal line) (codes ": ") (warn_text w) rest refl
    (name_inner w) refl (decimal_inner line) refl (text_inner w)

past_warns : (line : ℕ) (ws : List Warn) (rest : List ℕ)
    → fault_from (flat_map (warn_line line) ws ++ rest) true ≡ fault_from rest true
past_warns line [] rest = refl
past_warns line (w ∷ ws) rest =
    ap (λ xs. fault_from xs true) (append_assoc (warn_line line w) (flat_map (warn_line line) ws) rest)
    ∙ past_warn line w (flat_map (warn_line line) ws ++ rest) ∙ past_warns line ws rest

-- so are all lines of warnings
past_sets : (ws : List (ℕ × Warns)) (rest : List ℕ) → fault_from (warned_lines ws ++ rest) true ≡ fault_from rest true
past_sets [] rest = refl
past_sets (w ∷ ws) rest =
    ap (λ xs. fault_from xs true) (append_assoc (printed_warns w.0 w.1) (warned_lines ws) rest)
    ∙ past_warns w.0 (filter (has_warn w.1) all_warnings) (warned_lines ws ++ rest) ∙ past_sets ws rest

-- the line of the fault is the first that begins with `E`
fault_line_of : (ws : List (ℕ × Warns)) (line : ℕ) (f : Fault)
    → fault_from (warned_lines ws ++ printed_fault line f) true ≡ printed_fault line f
fault_line_of ws line f = past_sets ws (printed_fault line f)

-- the code with this number
abbrev numbered : ℕ → Code
numbered n =
    if n == 1 then E01 else
    if n == 2 then E02 else
    if n == 3 then E03 else
    if n == 4 then E04 else
    if n == 5 then E05 else
    if n == 6 then E06 else
    if n == 7 then E07 else
    if n == 8 then E08 else
    if n == 9 then E09 else
    if n == 10 then E10 else
    if n == 11 then E11 else
    if n == 12 then E12 else
    if n == 13 then E13 else
    if n == 14 then E14 else
    if n == 15 then E15 else
    if n == 16 then E16 else
    if n == 17 then E17 else
    if n == 18 then E18 else
    if n == 19 then E19 else
    if n == 20 then E20 else
    if n == 21 then E21 else
    if n == 22 then E22 else
    if n == 23 then E23 else
    E24

-- the code that the line of a fault tells
abbrev code_told : List ℕ → Code
code_told xs = numbered (10 * (get_or xs 7 0 - 48) + (get_or xs 8 0 - 48))

tells_code : (line : ℕ) (c : Code) (text end : List ℕ)
    → code_told (line_start (codes "Error ") (code_name c) line ++ text ++ end) ≡ c
tells_code line E01 text end = refl
tells_code line E02 text end = refl
tells_code line E03 text end = refl
tells_code line E04 text end = refl
tells_code line E05 text end = refl
tells_code line E06 text end = refl
tells_code line E07 text end = refl
tells_code line E08 text end = refl
tells_code line E09 text end = refl
tells_code line E10 text end = refl
tells_code line E11 text end = refl
tells_code line E12 text end = refl
tells_code line E13 text end = refl
tells_code line E14 text end = refl
tells_code line E15 text end = refl
tells_code line E16 text end = refl
tells_code line E17 text end = refl
tells_code line E18 text end = refl
tells_code line E19 text end = refl
tells_code line E20 text end = refl
tells_code line E21 text end = refl
tells_code line E22 text end = refl
tells_code line E23 text end = refl
tells_code line E24 text end = refl

-- one line, one code
code_of_line : (l k : ℕ) (f g : Fault) → printed_fault l f ≡ printed_fault k g → f.code ≡ g.code
code_of_line l k f g same =
    sym (tells_code l f.code (text_of f.code f.what f.n f.m) (codes "\n")) ∙ ap code_told same
    ∙ tells_code k g.code (text_of g.code g.what g.n g.m) (codes "\n")

-- what was put, where that is told
abbrev bytes_of : Option (List ℕ) → List ℕ
bytes_of None = []
bytes_of (Some xs) = xs

-- what came after b tells the line of the fault
behind : (b : List ℕ) (v : Option (List ℕ)) (line : ℕ) (f : Fault) → EndsInFault (Some b) v line f
    → fault_from (drop (length b) (bytes_of v)) true ≡ printed_fault line f
behind b v line f h =
    ap (λ o. fault_from (drop (length b) (bytes_of o)) true) h.lines
    ∙ ap (λ xs. fault_from (drop (length b) xs) true) (append_assoc b (warned_lines h.sets) (printed_fault line f))
    ∙ ap (λ xs. fault_from xs true) (drop-append_seam b (warned_lines h.sets ++ printed_fault line f))
    ∙ fault_line_of h.sets line f

pub told_once : OneFault
told_once b v l k f g h j =
    let same : printed_fault l f ≡ printed_fault k g = sym (behind b v l f h) ∙ behind b v k g j in
    (same, code_of_line l k f g same)
