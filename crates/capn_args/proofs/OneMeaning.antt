-- Lemmas for `command` and `unpack_of`: a subcommand with the values of its options means at most one command.
use Rattle.std.proofs.Common.{◌≡◌, ℕ, ◌+◌, List, [], ◌∷◌, Option, Some, None, refl, sym, ap, subst, ◌∙◌, codes}
use Rattle.std.proofs.Common.{unwrap_or, Bool, true, false}
use Rattle.std.specs.Str.Parse.{digits_value, without_leading_plus}
use Rattle.clap.specs.Words.{Row, Text}
use Rattle.capn_stream.specs.Frames.{most_table_words}
use Rattle.capn_walk.specs.Limits.{Bounds}
use Rattle.capn_value.specs.declared.tariff.Tariff.{Tariff}
use Rattle.capn_value.specs.declared.tariff.Tariff.TheVariants as tariffs
use Rattle.capn_canon.specs.declared.form.Form.{Form}
use Rattle.capn_canon.specs.declared.form.Form.TheVariants as forms
use Rattle.capn_commands.specs.declared.command.Command.{Command}
use Rattle.capn_commands.specs.declared.command.Command.TheVariants as commands
use Rattle.capn_commands.specs.declared.plan.MessageText.{MessageText}
use Rattle.capn_commands.specs.declared.plan.MessageText.TheVariants as pieces
use Rattle.capn_args.specs.Meaning.{CommandIs, InputIs, Means, MeansOne, command_name}
use Rattle.capn_args.specs.OptionValues.{FlagIs, FormIs, NumberIs, LimitsAre, UnpackedIs, flag_text, form_name}
use Rattle.capn_args.specs.OptionValues.{tariff_name}
use Rattle.capn_args.proofs.ByName.{Kind, Named, differ, named_one, nothing}

-- ---- the values of options

abbrev text_in : Option Text → Text
text_in text = unwrap_or text (codes "")

pub form_one : (f g : Form) → Some (form_name f) ≡ Some (form_name g) → f ≡ g
form_one forms.Stream forms.Stream e = refl
form_one forms.Packed forms.Packed e = refl
form_one forms.Bare forms.Bare e = refl
form_one f g e = absurd (differ (ap text_in e) refl)

pub tariff_one : (f g : Tariff) → Some (tariff_name f) ≡ Some (tariff_name g) → f ≡ g
tariff_one tariffs.Strict tariffs.Strict e = refl
tariff_one tariffs.Plain tariffs.Plain e = refl
tariff_one f g e = absurd (differ (ap text_in e) refl)

pub number_one : (rows : List Row) (option : Text) (m n : ℕ) → NumberIs rows option m → NumberIs rows option n → m ≡ n
number_one rows option m n (s, a, i, x) (t, b, j, y) =
    let e : s ≡ t = ap text_in (sym a ∙ b) in
    x ∙ ap (λ (text : Text). digits_value 10 (without_leading_plus text)) e ∙ sym y

pub limits_one : (rows : List Row) (l k : Bounds) → LimitsAre rows l → LimitsAre rows k → l ≡ k
limits_one rows l k (a, b, c, d, i) (x, y, z, w, j) =
    let words : l.message_words ≡ k.message_words = number_one rows _ _ _ a x in
    let budget : l.budget ≡ k.budget = number_one rows _ _ _ b y in
    let depth : l.depth ≡ k.depth = number_one rows _ _ _ c z in
    let tariff = tariff_one l.tariff k.tariff (sym d ∙ w) in
    λ i. record { message_words = words i; budget = budget i; depth = depth i; tariff = tariff i }

pub unpacked_one : (rows : List Row) (m n : ℕ) → UnpackedIs rows m → UnpackedIs rows n → m ≡ n
unpacked_one rows m n (k, a, i, x) (l, b, j, y) =
    let e = number_one rows _ k l a b in x ∙ ap (λ (n : ℕ). n + most_table_words) e ∙ sym y

pub text_one : (a b : Bool) → Some (flag_text a) ≡ Some (flag_text b) → a ≡ b
text_one true true e = refl
text_one false false e = refl
text_one a b e = absurd (differ (ap text_in e) refl)

pub flag_one : (rows : List Row) (option : Text) (a b : Bool) → FlagIs rows option a → FlagIs rows option b → a ≡ b
flag_one rows option a b x y = text_one a b (sym x ∙ y)

pub not_both : (rows : List Row) (option : Text) → FlagIs rows option false → FlagIs rows option true → ⊥
not_both rows option x y = let bad : false ≡ true = flag_one rows option false true x y in absurd (cc)

-- ---- the commands of each name

-- The command that writes the text of the kind `piece` for each message. If the second argument is `true`, the input
-- must be exactly one message.
abbrev pub command_for : MessageText → Bool → Form → Bounds → Command
command_for piece true form limits = commands.One piece form limits
command_for pieces.Text false form limits = commands.Show form limits
command_for pieces.Price false form limits = commands.Check form limits
command_for pieces.Digest false form limits = commands.Hash form limits

abbrev pub Equal : Command → Command → Type 0
Equal c d = c ≡ d

-- `c` is the command that writes the text of the kind `piece`, for the form, the limits and the value of `--one` in
-- `rows`.
abbrev WritesIs : MessageText → List Row → Command → Type 0
WritesIs piece rows c =
    (form : Form) × (limits : Bounds) × (one : Bool) × InputIs rows form limits one
    × (c ≡ command_for piece one form limits)

pub writes_one : (piece : MessageText) (rows : List Row) (c d : Command) → WritesIs piece rows c → WritesIs piece rows d
    → c ≡ d
writes_one piece rows c d (f, l, o, (a, b, x), is) (g, k, p, (i, j, y), also) =
    let form = form_one f g (sym a ∙ i) in
    let limits = limits_one rows l k b j in
    let one = flag_one rows (codes "one") o p x y in
    let same : command_for piece o f l ≡ command_for piece p g k =
    λ i. command_for piece (one i) (form i) (limits i) in is ∙ same ∙ sym also

abbrev pub writes : MessageText → Kind Equal
writes piece = record { Is = WritesIs piece; one = writes_one piece }

abbrev pub packs : Kind Equal
packs = record { Is = λ rows c. c ≡ commands.Pack; one = λ rows c d is also. is ∙ sym also }

abbrev UnpackIs : List Row → Command → Type 0
UnpackIs rows c = (most : ℕ) × UnpackedIs rows most × (c ≡ commands.Unpack most)

pub unpack_one : (rows : List Row) (c d : Command) → UnpackIs rows c → UnpackIs rows d → c ≡ d
unpack_one rows c d (m, a, is) (n, b, also) =
    is ∙ ap (λ (most : ℕ). commands.Unpack most) (unpacked_one rows m n a b) ∙ sym also

abbrev pub unpacks : Kind Equal
unpacks = record { Is = UnpackIs; one = unpack_one }

abbrev CanonicalIs : List Row → Command → Type 0
CanonicalIs rows c = (form : Form) × (limits : Bounds) × FormIs rows form × LimitsAre rows limits
    × (c ≡ commands.Canonical form limits)

pub canonical_one : (rows : List Row) (c d : Command) → CanonicalIs rows c → CanonicalIs rows d → c ≡ d
canonical_one rows c d (f, l, a, b, is) (g, k, i, j, also) =
    let form = form_one f g (sym a ∙ i) in
    let limits = limits_one rows l k b j in
    let same : commands.Canonical f l ≡ commands.Canonical g k = λ i. commands.Canonical (form i) (limits i) in
    is ∙ same ∙ sym also

abbrev pub canonicals : Kind Equal
canonicals = record { Is = CanonicalIs; one = canonical_one }

abbrev kinds : List (Text × Kind Equal)
kinds = (codes "show", writes pieces.Text)
    ∷ (codes "check", writes pieces.Price) ∷ (codes "hash", writes pieces.Digest) ∷ (codes "pack", packs)
    ∷ (codes "unpack", unpacks) ∷ (codes "canonical", canonicals) ∷ []

sorted : (rows : List Row) (c : Command) → CommandIs rows c → Named kinds nothing (command_name c) rows c
sorted rows (commands.Show f l) is = (f, l, false, is, refl)
sorted rows (commands.Check f l) is = (f, l, false, is, refl)
sorted rows commands.Pack is = refl
sorted rows (commands.Unpack m) is = (m, is, refl)
sorted rows (commands.Canonical f l) is = (f, l, is.0, is.1, refl)
sorted rows (commands.Hash f l) is = (f, l, false, is, refl)
sorted rows (commands.One pieces.Text f l) is = (f, l, true, is, refl)
sorted rows (commands.One pieces.Price f l) is = (f, l, true, is, refl)
sorted rows (commands.One pieces.Digest f l) is = (f, l, true, is, refl)

by_name : (name : Text) (rows : List Row) (c : Command) → Means (Some (name, rows)) c
    → Named kinds nothing name rows c
by_name name rows c m = subst (λ (n : Text). Named kinds nothing n rows c) (sym m.0) (sorted rows c m.1)

pub means_one : MeansOne
means_one None c d m n = absurd m
means_one (Some s) c d m n = named_one kinds nothing s.0 s.1 c d (by_name s.0 s.1 c m) (by_name s.0 s.1 d n)
