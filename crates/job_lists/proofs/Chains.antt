-- A view and a list, read field after field: where one is at fault, and what they come to. Assumes nothing.
use mathlib.Core.Path.{◌≡◌}
use mathlib.Core.List.{List, map}
use Prim.Native.Nat.{ℕ, ◌≤◌}
use native.Mathlib.Omega.{arith}
use Rattle.job_bytes.specs.Fields.{Field, read, fault, signed_of, number_at, byte_at, words_at}
use Rattle.job_bytes.proofs.Reading.{byte-range}
use Rattle.job.specs.Jobs.{view_of}
use Rattle.job.specs.Format.{view_at, list_at}
use Rattle.job_bytes.specs.Version.{stored_rank_limit, list_limit, stored-listed}

-- ---- a view
module _ (bs : List ℕ) (at : ℕ) where
  pub view-1 : (k : ℕ) → byte_at 0 stored_rank_limit bs at ≡ fault k → view_at bs at ≡ fault k
  unfolding view_at
  view-1 k e = rw e

  pub view-2 : (n k m : ℕ) → byte_at 0 stored_rank_limit bs at ≡ read n k → words_at n bs k ≡ fault m → view_at bs at ≡ fault m
  unfolding view_at
  view-2 n k m e f = rw (e, f)

  pub view-3 : (n k : ℕ) (es : List ℕ) (l m : ℕ) → byte_at 0 stored_rank_limit bs at ≡ read n k → words_at n bs k ≡ read es l → words_at n bs l ≡ fault m → view_at bs at ≡ fault m
  unfolding view_at
  view-3 n k es l m e f g = rw (e, f, g)

  pub view-4 : (n k : ℕ) (es : List ℕ) (l : ℕ) (ss : List ℕ) (m p : ℕ) → byte_at 0 stored_rank_limit bs at ≡ read n k → words_at n bs k ≡ read es l → words_at n bs l ≡ read ss m → number_at 8 bs m ≡ fault p → view_at bs at ≡ fault p
  unfolding view_at
  view-4 n k es l ss m p e f g h = rw (e, f, g, h)

  pub view-5 : (n k : ℕ) (es : List ℕ) (l : ℕ) (ss : List ℕ) (m o p : ℕ) → byte_at 0 stored_rank_limit bs at ≡ read n k → words_at n bs k ≡ read es l → words_at n bs l ≡ read ss m → number_at 8 bs m ≡ read o p → view_at bs at ≡ read (view_of es (map signed_of ss) (signed_of o)) p
  unfolding view_at
  view-5 n k es l ss m o p e f g h = rw (e, f, g, h)

-- ---- a list
module _ (bs : List ℕ) (at : ℕ) where
  pub list-1 : (k : ℕ) → byte_at 0 list_limit bs at ≡ fault k → list_at bs at ≡ fault k
  unfolding list_at
  list-1 k e = rw e

  pub list-2 : (n k : ℕ) (f : Field (List ℕ)) → byte_at 0 list_limit bs at ≡ read n k → words_at n bs k ≡ f → list_at bs at ≡ f
  unfolding list_at
  list-2 n k f e g = rw e g

-- a rank is a count of words that can be read
pub rank-words : (bs : List ℕ) (at n k : ℕ) → byte_at 0 stored_rank_limit bs at ≡ read n k → n ≤ list_limit
rank-words bs at n k e = omega (arith, stored-listed, (byte-range 0 stored_rank_limit bs at n k e).1)
