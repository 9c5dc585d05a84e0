-- Parts of a job as bytes: how many they are, and one stored behind another. Assumes nothing.
use Rattle.std.specs.Prelude.{Ok, Err}
use mathlib.Core.Path.{◌≡◌, refl, sym, ap, ap₂, subst, ◌∙◌}
use mathlib.Core.Bool.{true, false}
use mathlib.Core.List.{List, ◌++◌, map}
use Prim.Native.Nat.{ℕ, ◌+◌, ◌*◌, ◌≤◌, ◌<◌, min}
use native.Mathlib.Omega.{arith}
use native.Mathlib.Nat.{zero-add}
use borrow.Author.Tests.{le-leb, lt-leb}
use lib.Dec.{leb}
use lib.ListN.{length, take, drop, length-append, length-take, length-map}
use lib.Seq.{sets, length-sets, sets-eq}
use lib.IntN.{ℤ}
use Rattle.checks.proofs.Held.{take-map}
use Rattle.layout.specs.Answers.{is_done, Answer}
use Rattle.layout.specs.declared.View.{View}
use Rattle.layout.specs.Layouts.{rank_limit}
use Rattle.job_bytes.specs.Fields.{bytes_of, words_of, word_of}
use Rattle.job_bytes.proofs.Putting.{sets-append, length-bytes, length-words}
use Rattle.job.specs.declared.Kind.{Kind}
use Rattle.job.specs.declared.List16.{List16}
use Rattle.job.specs.declared.Views.{Views}
use Rattle.job.specs.declared.Spec.{Spec}
use Rattle.job.specs.declared.Job.{Job}
use Rattle.job.specs.Jobs.{entries_of}
use Rattle.job.specs.Format.{stored_extents, stored_strides, view_bytes, list_bytes, sizes_bytes, spec_bytes, views_bytes, body_bytes, encoded, view_most, list_most, views_most, spec_most, kind_byte, element_byte}
use Rattle.job_bytes.specs.Version.{version, stored_rank_limit, stored-held}
use Rattle.job_writer.specs.Written.{Put, PutJob, Written, Sized, room_refusal}
use Rattle.layout.specs.declared.Refusal.TheVariants as F

-- ---- how many bytes
pub length-view : (v : View) → length v.layout.extents ≡ rank_limit → length v.layout.strides ≡ rank_limit → length (view_bytes v) ≡ 9 + 16 * min v.layout.rank stored_rank_limit
unfolding view_bytes
length-view v e s =
    let es : List ℕ = stored_extents v.layout in
    let ss : List ℤ = stored_strides v.layout in
    let n : ℕ = length es in
    let xs : List ℕ = words_of es in
    let ys : List ℕ = words_of (map word_of ss) in
    let zs : List ℕ = bytes_of 8 (word_of v.offset) in
    omega (arith, stored-held, length-append (bytes_of 1 n) (xs ++ (ys ++ zs)), length-append xs (ys ++ zs), length-append ys zs, length-bytes 1 n, length-bytes 8 (word_of v.offset), length-words es, length-words (map word_of ss), length-map ss word_of, length-take (min v.layout.rank stored_rank_limit) v.layout.extents, length-take (min v.layout.rank stored_rank_limit) v.layout.strides)

pub length-list : (l : List16) → length (list_bytes l) ≡ 1 + 8 * length (entries_of l)
unfolding list_bytes
length-list l =
    omega (arith, length-append (bytes_of 1 (length (entries_of l))) (words_of (entries_of l)), length-bytes 1 (length (entries_of l)), length-words (entries_of l))

-- ---- sums of sizes
pub sized-two : (a b : List ℕ) (m n x y : ℕ) → Sized a m x → Sized b n y → Sized (a ++ b) (m + n) (x + y)
sized-two a b m n x y p q = record { is = ap₂ ◌+◌ p.is q.is ∙ sym (length-append a b); most = omega arith }

pub sized-number : (w v : ℕ) → Sized (bytes_of w v) w w
sized-number w v = record { is = sym (length-bytes w v); most = omega arith }

pub sized-views : (vs : Views) (x y z : ℕ) → Sized (view_bytes vs.first) view_most x → Sized (view_bytes vs.second) view_most y → Sized (view_bytes vs.third) view_most z → Sized (views_bytes vs) views_most (x + (y + z))
unfolding views_bytes
sized-views vs x y z p q r = sized-two _ _ _ _ _ _ p (sized-two _ _ _ _ _ _ q r)

pub sized-spec : (kind : Kind) (s : Spec) (a b c d : ℕ) → Sized (list_bytes s.window_dims) list_most a → Sized (list_bytes s.unit_dims) list_most b → Sized (list_bytes s.start_map) list_most c → Sized (sizes_bytes kind s.slice_sizes) list_most d → Sized (spec_bytes kind s) spec_most (a + (b + (c + (8 + d))))
unfolding spec_bytes
sized-spec kind s a b c d p q r t = sized-two _ _ _ _ _ _ p (sized-two _ _ _ _ _ _ q (sized-two _ _ _ _ _ _ r (sized-two _ _ _ _ _ _ (sized-number 8 s.index_vector_dim) t)))

pub sized-body : (j : Job) (a b : ℕ) → Sized (views_bytes j.views) views_most a → Sized (spec_bytes j.kind j.spec) spec_most b → Sized (body_bytes j) (3 + (views_most + spec_most)) (3 + (a + b))
unfolding body_bytes
sized-body j a b p q =
    let t = sized-two _ _ _ _ _ _ (sized-number 1 version) (sized-two _ _ _ _ _ _ (sized-number 1 (kind_byte j.kind)) (sized-two _ _ _ _ _ _ (sized-number 1 (element_byte j.element)) (sized-two _ _ _ _ _ _ p q))) in
    record { is = omega (arith, t.is); most = omega (arith, t.most) }

-- ---- one part behind another
pub put_of : {before after part : List ℕ} {at next : ℕ} → after ≡ sets before at part → next ≡ at + length part → Put before after at part next
put_of e f = record { cells = e; place = f }

pub put_then : {before mid after a b : List ℕ} {at k next : ℕ} → Put before mid at a k → Put mid after k b next → Put before after at (a ++ b) next
put_then {before} {mid} {after} {a} {b} {at} {k} {next} p q =
    record {
      cells = q.cells ∙ ap₂ (λ (l : List ℕ) (i : ℕ). sets l i b) p.cells p.place ∙ sym (sets-append before at a b);
      place = omega (arith, q.place, p.place, length-append a b);
    }

pub put_same : {before after part : List ℕ} {at next : ℕ} → Put before after at part next → length after ≡ length before
put_same {before} {after} {part} {at} {next} p = ap length p.cells ∙ length-sets before at part

-- ---- the parts themselves
pub put-list-is : (l : List16) (es : List ℕ) (at : ℕ) (before mid after : List ℕ) → es ≡ entries_of l
    → mid ≡ sets before at (bytes_of 1 (length es)) → after ≡ sets mid (at + 1) (words_of es) → Put before after at (list_bytes l) (at + 1 + 8 * length es)
unfolding list_bytes
put-list-is l es at before mid after h e f =
    let p : Put before mid at (bytes_of 1 (length es)) (at + 1) = put_of e (omega (arith, length-bytes 1 (length es))) in
    let q : Put mid after (at + 1) (words_of es) (at + 1 + 8 * length es) = put_of f (omega (arith, length-words es)) in
    subst (λ (xs : List ℕ). Put before after at (bytes_of 1 (length xs) ++ words_of xs) (at + 1 + 8 * length es)) h (put_then p q)

pub put-view-is : (v : View) (n k at w : ℕ) (ws before a b c after : List ℕ) → length v.layout.extents ≡ rank_limit → length v.layout.strides ≡ rank_limit → n ≡ min v.layout.rank stored_rank_limit
    → ws ≡ map word_of v.layout.strides → w ≡ word_of v.offset → k ≡ 9 + 16 * n
    → a ≡ sets before at (bytes_of 1 n) → b ≡ sets a (at + 1) (words_of (take n v.layout.extents)) → c ≡ sets b (at + 1 + 8 * n) (words_of (take n ws)) → after ≡ sets c (at + 1 + 16 * n) (bytes_of 8 w)
    → Put before after at (view_bytes v) (at + k)
unfolding view_bytes
put-view-is v n k at w ws before a b c after se ss h ew eo ek p q r t =
    let es : List ℕ = stored_extents v.layout in
    let zs : List ℕ = map word_of (stored_strides v.layout) in
    let te : take n v.layout.extents ≡ es = ap (λ (j : ℕ). take j v.layout.extents) h in
    let ts : take n ws ≡ zs = ap (take n) ew ∙ take-map word_of n v.layout.strides ∙ ap (λ (j : ℕ). map word_of (take j v.layout.strides)) h in
    let m : n ≡ length es = omega (arith, stored-held, length-take (min v.layout.rank stored_rank_limit) v.layout.extents) in
    let o : n ≡ length zs = omega (arith, stored-held, length-map (stored_strides v.layout) word_of, length-take (min v.layout.rank stored_rank_limit) v.layout.strides) in
    let p1 : Put before a at (bytes_of 1 (length es)) (at + 1) = put_of (rw (← m) p) (omega (arith, length-bytes 1 (length es))) in
    let p2 : Put a b (at + 1) (words_of es) (at + 1 + 8 * n) = put_of (rw (← te) q) (omega (arith, length-words es)) in
    let p3 : Put b c (at + 1 + 8 * n) (words_of zs) (at + 1 + 16 * n) = put_of (rw (← ts) r) (omega (arith, length-words zs)) in
    let p4 : Put c after (at + 1 + 16 * n) (bytes_of 8 (word_of v.offset)) (at + k) = put_of (rw (← eo) t) (omega (arith, length-bytes 8 (word_of v.offset))) in
    put_then p1 (put_then p2 (put_then p3 p4))

pub put-views-is : (vs : Views) (before a b after : List ℕ) (at k l m : ℕ) → Put before a at (view_bytes vs.first) k → Put a b k (view_bytes vs.second) l → Put b after l (view_bytes vs.third) m → Put before after at (views_bytes vs) m
unfolding views_bytes
put-views-is vs before a b after at k l m p q r = put_then p (put_then q r)

pub put-spec-is : (kind : Kind) (s : Spec) (before a b c d after : List ℕ) (at k l m o : ℕ) → Put before a at (list_bytes s.window_dims) k → Put a b k (list_bytes s.unit_dims) l → Put b c l (list_bytes s.start_map) m
    → d ≡ sets c m (bytes_of 8 s.index_vector_dim) → Put d after (m + 8) (sizes_bytes kind s.slice_sizes) o → Put before after at (spec_bytes kind s) o
unfolding spec_bytes
put-spec-is kind s before a b c d after at k l m o p q r e t =
    let n : Put c d m (bytes_of 8 s.index_vector_dim) (m + 8) = put_of e (omega (arith, length-bytes 8 s.index_vector_dim)) in
    put_then p (put_then q (put_then r (put_then n t)))

-- how long the rest is
pub length-views : (vs : Views) → length (views_bytes vs) ≡ length (view_bytes vs.first) + (length (view_bytes vs.second) + length (view_bytes vs.third))
unfolding views_bytes
length-views vs = length-append (view_bytes vs.first) (view_bytes vs.second ++ view_bytes vs.third) ∙ ap (λ (n : ℕ). length (view_bytes vs.first) + n) (length-append (view_bytes vs.second) (view_bytes vs.third))

pub length_spec : (kind : Kind) (s : Spec) → length (spec_bytes kind s) ≡ length (list_bytes s.window_dims) + (length (list_bytes s.unit_dims) + (length (list_bytes s.start_map) + (8 + length (sizes_bytes kind s.slice_sizes))))
unfolding spec_bytes
length_spec kind s =
    let a : List ℕ = list_bytes s.window_dims in
    let b : List ℕ = list_bytes s.unit_dims in
    let c : List ℕ = list_bytes s.start_map in
    let d : List ℕ = bytes_of 8 s.index_vector_dim in
    let e : List ℕ = sizes_bytes kind s.slice_sizes in
    omega (arith, length-append a (b ++ (c ++ (d ++ e))), length-append b (c ++ (d ++ e)), length-append c (d ++ e), length-append d e, length-bytes 8 s.index_vector_dim)

-- ---- the whole job
pub length-body : (j : Job) → length (body_bytes j) ≡ 3 + (length (views_bytes j.views) + length (spec_bytes j.kind j.spec))
unfolding body_bytes
length-body j =
    let a : List ℕ = bytes_of 1 version in
    let b : List ℕ = bytes_of 1 (kind_byte j.kind) in
    let c : List ℕ = bytes_of 1 (element_byte j.element) in
    let d : List ℕ = views_bytes j.views in
    let e : List ℕ = spec_bytes j.kind j.spec in
    omega (arith, length-append a (b ++ (c ++ (d ++ e))), length-append b (c ++ (d ++ e)), length-append c (d ++ e), length-append d e, length-bytes 1 version, length-bytes 1 (kind_byte j.kind), length-bytes 1 (element_byte j.element))

pub length-encoded : (j : Job) → length (encoded j) ≡ 4 + length (body_bytes j)
unfolding encoded
length-encoded j = omega (arith, length-append (bytes_of 4 (length (body_bytes j))) (body_bytes j), length-bytes 4 (length (body_bytes j)))

module _ (j : Job) (size : ℕ) (is : size ≡ length (body_bytes j)) (before : List ℕ) where
  pub no_room : length before < 4 + size → PutJob j before (Err (F.BufferBounds 0 (4 + size))) before
  no_room h =
      let n : 4 + size ≡ length (encoded j) = omega (arith, length-encoded j) in
      let t : leb (length (encoded j)) (length before) ≡ false = lt-leb (length (encoded j)) (length before) (omega arith) in
      record { answers = rw (t, n); leaves = refl }

  pub put-job-is : (a b c d e after : List ℕ) (kind element k m : ℕ) → kind ≡ kind_byte j.kind → element ≡ element_byte j.element → 4 + size ≤ length before
      → a ≡ sets before 0 (bytes_of 4 size) → b ≡ sets a 4 (bytes_of 1 version) → c ≡ sets b 5 (bytes_of 1 kind) → d ≡ sets c 6 (bytes_of 1 element)
      → Put d e 7 (views_bytes j.views) k → Put e after k (spec_bytes j.kind j.spec) m → PutJob j before (Ok tt) after
  unfolding encoded body_bytes
  put-job-is a b c d e after kind element k m ek ee h p q r s u v =
      let p1 : Put before a 0 (bytes_of 4 (length (body_bytes j))) 4 = put_of (rw (← is) p) (omega (arith, length-bytes 4 (length (body_bytes j)))) in
      let p2 : Put a b 4 (bytes_of 1 version) 5 = put_of q (omega (arith, length-bytes 1 version)) in
      let p3 : Put b c 5 (bytes_of 1 (kind_byte j.kind)) 6 = put_of (rw (← ek) r) (omega (arith, length-bytes 1 (kind_byte j.kind))) in
      let p4 : Put c d 6 (bytes_of 1 (element_byte j.element)) 7 = put_of (rw (← ee) s) (omega (arith, length-bytes 1 (element_byte j.element))) in
      let whole : Put before after 0 (encoded j) m = put_then p1 (put_then p2 (put_then p3 (put_then p4 (put_then u v)))) in
      let n : 4 + size ≡ length (encoded j) = omega (arith, length-encoded j) in
      let t : leb (length (encoded j)) (length before) ≡ true = le-leb (length (encoded j)) (length before) (omega arith) in
      let w : after ≡ encoded j ++ drop (length (encoded j)) before = whole.cells ∙ sets-eq (encoded j) before 0 (omega arith) ∙ ap (λ (i : ℕ). encoded j ++ drop i before) (zero-add (length (encoded j))) in
      record { answers = rw t; leaves = w }
