-- Lemmas for `command_of`, `invocation_of`, `meaning` and `show_of`: a subcommand with the values of its options means
-- at most one invocation.
use Rattle.std.proofs.Common.{◌≡◌, ◌⊎◌, inl, inr, ℕ, List, [], ◌∷◌, Bool, true, false, Option, Some, None, refl, sym}
use Rattle.std.proofs.Common.{◌∙◌, ap, Bor, codes, subst, unwrap_or}
use Rattle.std.specs.Prelude.{⊤}
use Rattle.clap.specs.Words.{Row, Text, first_of}
use Rattle.capn_show.specs.declared.style.Style.{Style}
use Rattle.capn_show.specs.declared.style.Style.TheVariants as styles
use Rattle.capn_walk.specs.Limits.{Bounds}
use Rattle.capn_args.specs.OptionValues.{FlagIs, FormIs, NumberIs, form_name}
use Rattle.capn_args.specs.Meaning.{AnnotateIs, AreOptions, AreSame, CmpIs, ExplainIs, ExplanationIs, FilterIs}
use Rattle.capn_args.specs.Meaning.{HasOptions, IsNumbered, IsSamePath, MakeIs, MarksAre, MeansInvocation}
use Rattle.capn_args.specs.Meaning.{MeansOneInvocation, OnlyIs, PathIs, PickIs, RefusedIs, ShowIs, StyleIs, TaskIs}
use Rattle.capn_args.specs.Meaning.{UniqIs, is_plain, name_of, task_name, usual_with}
use Rattle.capn_commands.specs.Plan.{form_of}
use Rattle.capn_commands.specs.declared.plan.MessageText.TheVariants as pieces
use Rattle.capn_args.proofs.ByName.{Kind, Named, differ, named_one}
use Rattle.capn_args.proofs.OneMeaning.{Equal, canonicals, packs, unpacks, writes}
use Rattle.capn_args.proofs.OneMeaning.{flag_one, form_one, limits_one, not_both, number_one}
use Rattle.capn_commands.specs.declared.command.Command.{Command}
use Rattle.capn_commands.specs.declared.command.Command.TheVariants as commands
use Rattle.capn_annotate.specs.declared.annotate_order.AnnotateOrder.{AnnotateOrder}
use Rattle.capn_archive.specs.declared.task.ArchiveOrder.{ArchiveOrder}
use Rattle.capn_archive.specs.declared.task.Task.{Task}
use Rattle.capn_archive.specs.declared.task.Task.TheVariants as tasks
use Rattle.capn_archive.specs.declared.filter_order.FilterOrder.{FilterOrder}
use Rattle.capn_cmp.specs.declared.cmp_order.CmpOrder.{CmpOrder}
use Rattle.capn_archive.specs.declared.uniq_order.UniqOrder.{UniqOrder}
use Rattle.capn_explain.specs.declared.explain.Explain.{Explain}
use Rattle.capn_explain.specs.declared.explain_refused.ExplainRefused.{ExplainRefused}
use Rattle.capn_serve.specs.declared.pick.Pick.{Pick}
use Rattle.capn_serve.specs.declared.pick.StreamForm.{StreamForm}
use Rattle.capn_serve.specs.declared.pick.StreamForm.TheVariants as stream_forms
use Rattle.capn_args.specs.MessageNumber.{number_of}
use Rattle.capn_args.specs.declared.invocation.Explanation.{Explanation}
use Rattle.capn_args.specs.declared.invocation.Explanation.TheVariants as explanations
use Rattle.capn_args.specs.declared.invocation.Flow.TheVariants as flows
use Rattle.capn_args.specs.declared.invocation.Make.{Make}
use Rattle.capn_args.specs.declared.invocation.Only.{Only}
use Rattle.capn_args.specs.declared.invocation.Show.{Show}
use Rattle.capn_args.specs.declared.invocation.Invocation.{Invocation}
use Rattle.capn_args.specs.declared.invocation.Invocation.TheVariants as invocations

-- ---- two invocations of one kind

task_one : (rows : List Row) (s t : Task) → task_name s ≡ task_name t → TaskIs rows s → TaskIs rows t → s ≡ t
task_one rows tasks.List tasks.Digests e is also = absurd (not_both rows (codes "digest") is also)
task_one rows tasks.Digests tasks.List e is also = absurd (not_both rows (codes "digest") also is)
task_one rows s tasks.List e is also = cc
task_one rows s t e is also = cc

pub archive_one : (rows : List Row) (a b : ArchiveOrder) → task_name a.task ≡ task_name b.task → TaskIs rows a.task
    → AreOptions rows a → TaskIs rows b.task → AreOptions rows b → invocations.Archive a ≡ invocations.Archive b
archive_one rows a b e s (f, l, k) t (g, m, j) =
    let task = task_one rows a.task b.task e s t in
    let form : a.form ≡ b.form = form_one a.form b.form (sym f ∙ g) in
    let limits : a.limits ≡ b.limits = limits_one rows a.limits b.limits l m in
    let going : a.keep_going ≡ b.keep_going = flag_one rows (codes "keep-going") a.keep_going b.keep_going k j in
    λ i. invocations.Archive (record { task = task i; form = form i; limits = limits i; keep_going = going i })

pub annotate_one : (rows : List Row) (u v : AnnotateOrder) → AnnotateIs rows u → AnnotateIs rows v
    → invocations.Annotate u ≡ invocations.Annotate v
annotate_one rows u v (f, l, s) (g, m, t) =
    let form : u.form ≡ v.form = form_one u.form v.form (sym f ∙ g) in
    let limits : u.limits ≡ v.limits = limits_one rows u.limits v.limits l m in
    let summary : u.summary ≡ v.summary = flag_one rows (codes "summary") u.summary v.summary s t in
    λ i. invocations.Annotate (record { form = form i; limits = limits i; summary = summary i })

pub uniq_one : (rows : List Row) (u v : UniqOrder) → UniqIs rows u → UniqIs rows v
    → invocations.Uniq u ≡ invocations.Uniq v
uniq_one rows u v (f, l, k, c) (g, m, j, d) =
    let form : u.form ≡ v.form = form_one u.form v.form (sym f ∙ g) in
    let limits : u.limits ≡ v.limits = limits_one rows u.limits v.limits l m in
    let going : u.keep_going ≡ v.keep_going = flag_one rows (codes "keep-going") u.keep_going v.keep_going k j in
    let count : u.count ≡ v.count = flag_one rows (codes "count") u.count v.count c d in
    λ i. invocations.Uniq (record { form = form i; limits = limits i; keep_going = going i; count = count i })

pub filter_one : (rows : List Row) (u v : FilterOrder) → FilterIs rows u → FilterIs rows v
    → invocations.Filter u ≡ invocations.Filter v
filter_one rows u v (f, l, k, c) (g, m, j, d) =
    let form : u.form ≡ v.form = form_one u.form v.form (sym f ∙ g) in
    let limits : u.limits ≡ v.limits = limits_one rows u.limits v.limits l m in
    let going : u.keep_going ≡ v.keep_going = flag_one rows (codes "keep-going") u.keep_going v.keep_going k j in
    let canonical : u.canonical ≡ v.canonical = flag_one rows (codes "canonical") u.canonical v.canonical c d in
    λ i. invocations.Filter (record { form = form i; limits = limits i; keep_going = going i; canonical = canonical i })

pub make_one : (rows : List Row) (p q : Make) → MakeIs rows p → MakeIs rows q → invocations.Make p ≡ invocations.Make q
make_one rows p q (f, b) (g, c) =
    let form : p.form ≡ q.form = form_one p.form q.form (sym f ∙ g) in
    let quoted : p.quoted ≡ q.quoted = flag_one rows (codes "text") p.quoted q.quoted b c in
    λ i. invocations.Make (record { form = form i; quoted = quoted i })

same_stream_form : (f g : StreamForm) → form_of f ≡ form_of g → f ≡ g
same_stream_form stream_forms.Stream stream_forms.Stream e = refl
same_stream_form stream_forms.Packed stream_forms.Packed e = refl
same_stream_form f g e = absurd (differ (ap form_name e) refl)

stream_form_one : (rows : List Row) (f g : StreamForm) → FormIs rows (form_of f) → FormIs rows (form_of g) → f ≡ g
stream_form_one rows f g is also = same_stream_form f g (form_one (form_of f) (form_of g) (sym is ∙ also))

pub cmp_one : (rows : List Row) (u v : CmpOrder) → CmpIs rows u → CmpIs rows v → invocations.Cmp u ≡ invocations.Cmp v
cmp_one rows u v (f, l) (g, m) =
    let form : u.form ≡ v.form = stream_form_one rows u.form v.form f g in
    let limits : u.limits ≡ v.limits = limits_one rows u.limits v.limits l m in
    λ i. invocations.Cmp (record { form = form i; limits = limits i })

words_one : (rows : List Row) (l k : Bounds) → NumberIs rows (codes "message-words") l.message_words
    → NumberIs rows (codes "message-words") k.message_words → l ≡ usual_with l.message_words
    → k ≡ usual_with k.message_words
    → l ≡ k
words_one rows l k is also usual usually =
    usual
    ∙ ap usual_with (number_one rows (codes "message-words") l.message_words k.message_words is also)
    ∙ sym usually

pub pick_one : (rows : List Row) (p q : Pick) → PickIs rows p → PickIs rows q → invocations.Pick p ≡ invocations.Pick q
pick_one rows p q (f, w, usual, a, b, none) (g, v, usually, c, d, also) =
    let form : p.form ≡ q.form = stream_form_one rows p.form q.form f g in
    let limits : p.limits ≡ q.limits = words_one rows p.limits q.limits w.0 v.0 usual usually in
    let from : p.from ≡ q.from = number_one rows (codes "from") p.from q.from a.0 c.0 in
    let to : p.to ≡ q.to = number_one rows (codes "to") p.to q.to b.0 d.0 in
    λ i. invocations.Pick (record { form = form i; limits = limits i; from = from i; to = to i })

pub only_one : (rows : List Row) (p q : Only) → OnlyIs rows p → OnlyIs rows q
    → AreSame (invocations.Only p) (invocations.Only q)
only_one rows p q (f, w, usual, list) (g, v, usually, other) = (
  stream_form_one rows p.form q.form f g,
  words_one rows p.limits q.limits w.0 v.0 usual usually,
  ap (λ (o : Option Text). unwrap_or o (codes "")) (sym list.0 ∙ other.0),
)

pub style_one : (rows : List Row) (s t : Style) → StyleIs rows s → StyleIs rows t → s ≡ t
style_one rows s t is also = let same : Some s ≡ Some t = sym is ∙ also in cc

path_one : (rows : List Row) (f g : Bool) (v w : Option (Bor Text)) → PathIs rows f v → PathIs rows g w → IsSamePath v w
path_one rows f g None None is also = tt
path_one rows f g None (Some w) is also = let bad : None ≡ Some w.now = sym is.0 ∙ also.0 in absurd cc
path_one rows f g (Some v) None is also = let bad : Some v.now ≡ None = sym is.0 ∙ also.0 in absurd cc
path_one rows f g (Some v) (Some w) is also =
    ap (λ (o : Option Text). unwrap_or o (codes "")) (sym is.0 ∙ also.0)

pub show_one : (rows : List Row) (s t : Show) → ShowIs rows s → ShowIs rows t
    → AreSame (invocations.Show s) (invocations.Show t)
show_one rows s t (f, l, style, (offsets, ways, fit), path, one) (g, m, other, (too, more, fits), also, single) = (
  form_one s.form t.form (sym f ∙ g),
  limits_one rows s.limits t.limits l m,
  style_one rows s.style t.style style other,
  flag_one rows (codes "offsets") s.offsets t.offsets offsets too,
  flag_one rows (codes "ways") s.ways t.ways ways more,
  path_one rows (is_plain s.style s.offsets s.ways) (is_plain t.style t.offsets t.ways) s.path t.path path also,
  flag_one rows (codes "one") s.one t.one one single,
)

number_given : (rows : List Row) (a b : Option ℕ) → IsNumbered rows a → IsNumbered rows b → a ≡ b
number_given rows None None is also = refl
number_given rows None (Some m) is (text, there, reads) = let bad : None ≡ Some text = sym is ∙ there in absurd cc
number_given rows (Some n) None (text, there, reads) also = let bad : Some text ≡ None = sym there ∙ also in absurd cc
number_given rows (Some n) (Some m) (text, there, reads) (other, also, same) =
    sym reads
    ∙ ap (λ (o : Option Text). number_of (unwrap_or o (codes ""))) (sym there ∙ also)
    ∙ same

explain_one : (rows : List Row) (x y : Explain) → ExplainIs rows x → ExplainIs rows y → x ≡ y
explain_one rows x y (f, l, n) (g, m, k) =
    let form : x.form ≡ y.form = form_one x.form y.form (sym f ∙ g) in
    let limits : x.limits ≡ y.limits = limits_one rows x.limits y.limits l m in
    let number : x.number ≡ y.number = number_given rows x.number y.number n k in
    λ i. record { form = form i; limits = limits i; number = number i }

refused_one : (rows : List Row) (x y : ExplainRefused) → RefusedIs rows x → RefusedIs rows y → x ≡ y
refused_one rows x y (f, l, none) (g, m, also) =
    let form : x.form ≡ y.form = form_one x.form y.form (sym f ∙ g) in
    let limits : x.limits ≡ y.limits = limits_one rows x.limits y.limits l m in
    λ i. record { form = form i; limits = limits i }

pub explanation_one : (rows : List Row) (x y : Explanation) → ExplanationIs rows x → ExplanationIs rows y
    → invocations.Explain x ≡ invocations.Explain y
explanation_one rows (explanations.One x) (explanations.One y) is also =
    ap (λ (v : Explain). invocations.Explain (explanations.One v)) (explain_one rows x y is.0 also.0)
explanation_one rows (explanations.One x) (explanations.Refused y) is also =
    absurd (not_both rows (codes "keep-going") is.1 also.1)
explanation_one rows (explanations.Refused x) (explanations.One y) is also =
    absurd (not_both rows (codes "keep-going") also.1 is.1)
explanation_one rows (explanations.Refused x) (explanations.Refused y) is also =
    ap (λ (v : ExplainRefused). invocations.Explain (explanations.Refused v)) (refused_one rows x y is.0 also.0)

-- ---- the invocations of each name

pub same_as : {o p x y : Invocation} → o ≡ x → p ≡ y → AreSame x y → AreSame o p
same_as {o} {p} {x} {y} is also same =
    subst (λ (a : Invocation). AreSame a p) (sym is) (subst (λ (b : Invocation). AreSame x b) (sym also) same)

-- `o` is `name x`, the invocation of some order `x`, and the options in `rows` have the values in `x`.
abbrev OrderIs : {A : Type 0} → (A → Invocation) → List Row → Invocation → Type 0
OrderIs {A} name rows o = (x : A) × HasOptions rows (name x) × (o ≡ name x)

abbrev orders : {A : Type 0} (name : A → Invocation) → ((rows : List Row) (x y : A) → HasOptions rows (name x)
    → HasOptions rows (name y) → AreSame (name x) (name y)) → Kind AreSame
orders name one = record {
  Is = OrderIs name;
  one = λ rows o p is also. same_as is.2 also.2 (one rows is.0 also.0 is.1 also.1);
}

-- `o` is the run over an archive with the options `a`, whose task belongs to the subcommand `name`. The options in
-- `rows` have the values in `a`.
abbrev pub ArchiveIs : Text → List Row → Invocation → Type 0
ArchiveIs name rows o = (a : ArchiveOrder) × TaskIs rows a.task × AreOptions rows a × (task_name a.task ≡ name)
    × (o ≡ invocations.Archive a)

abbrev pub archives : Text → Kind AreSame
archives name = record {
  Is = ArchiveIs name;
  one = λ rows o p is also.
      same_as is.4 also.4 (archive_one rows is.0 also.0 (is.3 ∙ sym also.3) is.1 is.2 also.1 also.2);
}

-- `o` is the invocation of a command `c`. `Is` holds for `rows` and `c`, and `IsBare` for `rows`.
abbrev MessageIs : (List Row → Command → Type 0) → (List Row → Type 0) → List Row → Invocation → Type 0
MessageIs Is IsBare rows o = (c : Command) × Is rows c × IsBare rows × (o ≡ invocations.Message c)

abbrev messages : Kind Equal → (List Row → Type 0) → Kind AreSame
messages kind IsBare = record {
  Is = MessageIs kind.Is IsBare;
  one = λ rows o p is also.
      same_as is.3 also.3 (ap (λ (c : Command). invocations.Message c) (kind.one rows is.0 also.0 is.1 also.1));
}

-- If no options are of both kinds `k` and `l`, options mean at most one invocation of these two kinds.
pub one_of_two : (k l : Kind AreSame) → ((rows : List Row) (o p : Invocation) → k.Is rows o → l.Is rows p → ⊥)
    → (rows : List Row) (o p : Invocation) → k.Is rows o ⊎ l.Is rows o → k.Is rows p ⊎ l.Is rows p → AreSame o p
one_of_two k l clash rows o p (inl is) (inl also) = k.one rows o p is also
one_of_two k l clash rows o p (inl is) (inr also) = absurd (clash rows o p is also)
one_of_two k l clash rows o p (inr is) (inl also) = absurd (clash rows p o also is)
one_of_two k l clash rows o p (inr is) (inr also) = l.one rows o p is also

abbrev either : (k l : Kind AreSame) → ((rows : List Row) (o p : Invocation) → k.Is rows o → l.Is rows p → ⊥)
    → Kind AreSame
either k l clash = record { Is = λ rows o. k.Is rows o ⊎ l.Is rows o; one = one_of_two k l clash }

abbrev IsAny : List Row → Type 0
IsAny rows = ⊤

-- `--at` is not given, and no flag of `show` is given except `--one`.
abbrev IsPlain : List Row → Type 0
IsPlain rows = (first_of (codes "at") rows ≡ None) × StyleIs rows styles.Lines × MarksAre rows styles.Lines false false

abbrev plain_shows : Kind AreSame
plain_shows = messages (writes pieces.Text) IsPlain

abbrev shows : Kind AreSame
shows = orders (λ (s : Show). invocations.Show s) show_one

no_show : (rows : List Row) (plain : Bool) (path : Option (Bor Text)) → first_of (codes "at") rows ≡ None
    → plain ≡ true → PathIs rows plain path → ⊥
no_show rows plain None none is other = let bad : true ≡ false = sym is ∙ other.1 in absurd cc
no_show rows plain (Some path) none is other = let bad : None ≡ Some path.now = sym none ∙ other.0 in absurd cc

plainly : (rows : List Row) (s : Show) → StyleIs rows styles.Lines → MarksAre rows styles.Lines false false
    → ShowIs rows s → is_plain s.style s.offsets s.ways ≡ true
plainly rows s lines (bare, still, fit) (f, l, style, (offsets, ways, fits), path, one) =
    ap (λ (x : Style). is_plain x s.offsets s.ways) (style_one rows s.style styles.Lines style lines)
    ∙ ap (λ (x : Bool). is_plain styles.Lines x s.ways) (flag_one rows (codes "offsets") s.offsets false offsets bare)
    ∙ ap (λ (x : Bool). is_plain styles.Lines false x) (flag_one rows (codes "ways") s.ways false ways still)

pub not_plain : (rows : List Row) (o p : Invocation) → plain_shows.Is rows o → shows.Is rows p → ⊥
not_plain rows o p (c, are, (none, lines, marks), is) (s, shown, also) =
    no_show rows (is_plain s.style s.offsets s.ways) s.path none (plainly rows s lines marks shown) shown.4

abbrev whole_canonicals : Kind AreSame
whole_canonicals =
    messages canonicals (λ rows. FlagIs rows (codes "framed") false × FlagIs rows (codes "keep-going") false)

pub framed_given : (rows : List Row) (t : Task) → task_name t ≡ codes "canonical" → TaskIs rows t
    → FlagIs rows (codes "framed") true
framed_given rows tasks.Canonical e is = is
framed_given rows t e is = absurd (differ e refl)

pub not_framed : (rows : List Row) (o p : Invocation) → whole_canonicals.Is rows o
    → ArchiveIs (codes "canonical") rows p
    → ⊥
not_framed rows o p (c, are, (framed, going), is) (a, task, options, named, also) =
    not_both rows (codes "framed") framed (framed_given rows a.task named task)

abbrev picks : Kind AreSame
picks = orders (λ (p : Pick). invocations.Pick p) pick_one

abbrev lists : Kind AreSame
lists = orders (λ (l : Only). invocations.Only l) only_one

pub not_listed : (rows : List Row) (o p : Invocation) → picks.Is rows o → lists.Is rows p → ⊥
not_listed rows o p (k, (f, w, usual, a, b, none), is) (l, (g, v, usually, list), also) =
    let bad : None ≡ Some l.list.now = sym none ∙ list.0 in absurd cc

abbrev IsWhole : List Row → Type 0
IsWhole rows = FlagIs rows (codes "streaming") false

abbrev packing : Kind AreSame
packing = orders (λ (x : ⊤). invocations.Flow flows.Pack) (λ rows x y is also. refl)

pub not_packing : (rows : List Row) (o p : Invocation) → MessageIs packs.Is IsWhole rows o → packing.Is rows p → ⊥
not_packing rows o p (c, are, whole, is) (x, streaming, also) = not_both rows (codes "streaming") whole streaming

abbrev unpacking : Kind AreSame
unpacking = orders (λ (x : ⊤). invocations.Flow flows.Unpack) (λ rows x y is also. refl)

pub not_unpacking : (rows : List Row) (o p : Invocation) → MessageIs unpacks.Is IsWhole rows o → unpacking.Is rows p → ⊥
not_unpacking rows o p (c, are, whole, is) (x, (streaming, usual), also) =
    not_both rows (codes "streaming") whole streaming

-- The kinds of invocations, by the name of the subcommand. A name that is not listed is of the kind `archives`.
abbrev pub kinds : List (Text × Kind AreSame)
kinds = (codes "show", either plain_shows shows not_plain)
    ∷ (codes "check", messages (writes pieces.Price) IsAny)
    ∷ (codes "explain", orders (λ (x : Explanation). invocations.Explain x) explanation_one)
    ∷ (codes "annotate", orders (λ (a : AnnotateOrder). invocations.Annotate a) annotate_one)
    ∷ (codes "list", archives (codes "list"))
    ∷ (codes "canonical", either whole_canonicals (archives (codes "canonical")) not_framed)
    ∷ (codes "hash", messages (writes pieces.Digest) IsAny)
    ∷ (codes "uniq", orders (λ (u : UniqOrder). invocations.Uniq u) uniq_one)
    ∷ (codes "filter", orders (λ (f : FilterOrder). invocations.Filter f) filter_one)
    ∷ (codes "cmp", orders (λ (c : CmpOrder). invocations.Cmp c) cmp_one)
    ∷ (codes "pick", either picks lists not_listed)
    ∷ (codes "pack", either (messages packs IsWhole) packing not_packing)
    ∷ (codes "unpack", either (messages unpacks IsWhole) unpacking not_unpacking)
    ∷ (codes "make", orders (λ (m : Make). invocations.Make m) make_one) ∷ []

sorted_archive : (rows : List Row) (a : ArchiveOrder) (t : Task) → a.task ≡ t → TaskIs rows a.task → AreOptions rows a
    → Named kinds archives (task_name t) rows (invocations.Archive a)
sorted_archive rows a tasks.Canonical e is are = inr (a, is, are, ap task_name e, refl)
sorted_archive rows a t e is are = (a, is, are, ap task_name e, refl)

sorted : (rows : List Row) (o : Invocation) → HasOptions rows o → Named kinds archives (name_of o) rows o
sorted rows (invocations.Message (commands.Show f l)) is =
    inl (commands.Show f l, (f, l, false, is.0, refl), is.1, refl)
sorted rows (invocations.Message (commands.Check f l)) is =
    (commands.Check f l, (f, l, false, is.0, refl), is.1, refl)
sorted rows (invocations.Message commands.Pack) is = inl (commands.Pack, refl, is.1, refl)
sorted rows (invocations.Message (commands.Unpack m)) is = inl (commands.Unpack m, (m, is.0, refl), is.1, refl)
sorted rows (invocations.Message (commands.Canonical f l)) is =
    inl (commands.Canonical f l, (f, l, is.0.0, is.0.1, refl), is.1, refl)
sorted rows (invocations.Message (commands.Hash f l)) is =
    (commands.Hash f l, (f, l, false, is.0, refl), is.1, refl)
sorted rows (invocations.Message (commands.One pieces.Text f l)) is =
    inl (commands.One pieces.Text f l, (f, l, true, is.0, refl), is.1, refl)
sorted rows (invocations.Message (commands.One pieces.Price f l)) is =
    (commands.One pieces.Price f l, (f, l, true, is.0, refl), is.1, refl)
sorted rows (invocations.Message (commands.One pieces.Digest f l)) is =
    (commands.One pieces.Digest f l, (f, l, true, is.0, refl), is.1, refl)
sorted rows (invocations.Show s) is = inr (s, is, refl)
sorted rows (invocations.Explain x) is = (x, is, refl)
sorted rows (invocations.Annotate a) is = (a, is, refl)
sorted rows (invocations.Archive a) is = sorted_archive rows a a.task refl is.0 is.1
sorted rows (invocations.Uniq u) is = (u, is, refl)
sorted rows (invocations.Filter f) is = (f, is, refl)
sorted rows (invocations.Cmp c) is = (c, is, refl)
sorted rows (invocations.Pick p) is = inl (p, is, refl)
sorted rows (invocations.Only l) is = inr (l, is, refl)
sorted rows (invocations.Flow flows.Pack) is = inr (tt, is, refl)
sorted rows (invocations.Flow flows.Unpack) is = inr (tt, is, refl)
sorted rows (invocations.Make m) is = (m, is, refl)

-- If `name` and `rows` mean `o`, they mean it by the kind of `name` in `kinds`, or by `archives`.
pub by_name : (name : Text) (rows : List Row) (o : Invocation) → MeansInvocation (Some (name, rows)) o
    → Named kinds archives name rows o
by_name name rows o m = subst (λ (n : Text). Named kinds archives n rows o) (sym m.0) (sorted rows o m.1)

pub means_one_invocation : MeansOneInvocation
means_one_invocation None o p m n = absurd m
means_one_invocation (Some s) o p m n =
    named_one kinds archives s.0 s.1 o p (by_name s.0 s.1 o m) (by_name s.0 s.1 p n)

pub same_command : (o : Invocation) (command : Command) → AreSame o (invocations.Message command)
    → o ≡ invocations.Message command
same_command (invocations.Show show) command is = is
same_command o command is = is
