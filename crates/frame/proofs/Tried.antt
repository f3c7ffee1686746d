-- The reader on concrete bytes: what stands at a place, where reading goes on, and all that is read from there, with each condition of
-- document 01 tried on both of its sides. By computation.
use mathlib.Core.Path.{◌≡◌, refl}
use mathlib.Core.Bool.{Bool, true, false}
use mathlib.Core.List.{List, [], ◌∷◌, ◌++◌, map}
use Prim.Native.Nat.{ℕ}
use lib.ListN.{replicate}
use Rattle.frame.specs.Reading.{Step}
use Rattle.frame.specs.Reading.{Record, Torn, End}
use Rattle.frame.specs.Fields.{length_field, kind_field}
use Rattle.frame.specs.Reading.{step_at, records_within, records_from, torn_within, torn_from, place_after}

-- What a reader finds at a place: the step, where reading goes on, the records from there on, and whether the bytes are torn after them.
pub record Finding : Type 0 where
  pub step : Step
  pub on : ℕ
  pub records : List (List ℕ)
  pub is_torn : Bool

-- Bytes and a place in them, with what is to be found there.
pub record Trial : Type 0 where
  pub bytes : List ℕ
  pub place : ℕ
  pub expected : Finding

abbrev pub expected_of : Trial → Finding
expected_of t = t.expected

unfoldable pub found : Trial → Finding
unfolding step_at records_within records_from torn_within torn_from
found t =
    let s = step_at t.bytes t.place in
    record {
      step = s;
      on = place_after t.place s;
      records = records_from t.bytes t.place;
      is_torn = torn_from t.bytes t.place;
    }

-- A torn place and the end are not left, and nothing is read from them on.
abbrev torn_at : List ℕ → ℕ → Trial
torn_at b at = record { bytes = b; place = at; expected = record { step = Torn; on = at; records = []; is_torn = true } }

abbrev end_at : List ℕ → ℕ → Trial
end_at b at = record { bytes = b; place = at; expected = record { step = End; on = at; records = []; is_torn = false } }

-- A record of n bytes from a place on: reading goes on at the next. The records that are read, and whether the bytes are torn after them:
abbrev record_at : List ℕ → ℕ → ℕ → ℕ → List (List ℕ) → Bool → Trial
record_at b at n next rs t =
    record { bytes = b; place = at; expected = record { step = Record at n next; on = next; records = rs; is_torn = t } }

-- Records of 4, 6 and 260 bytes. The judge refuses the first and the last; they are records all the same.
abbrev four : List ℕ
four = 4 ∷ 0 ∷ 8 ∷ 0 ∷ []

abbrev six : List ℕ
six = 6 ∷ 0 ∷ 5 ∷ 0 ∷ 1 ∷ 2 ∷ []

abbrev long : List ℕ
long = 0x04 ∷ 0x01 ∷ 8 ∷ 0 ∷ replicate 256 1

-- [01:records.1] "Length first: two bytes, little-endian, ..; then a two-byte little-endian kind"
pub fields_tried :
    (length_field (0x34 ∷ 0x12 ∷ 0x78 ∷ 0x56 ∷ []) ≡ 0x1234) × (kind_field (0x34 ∷ 0x12 ∷ 0x78 ∷ 0x56 ∷ []) ≡ 0x5678)
fields_tried = (refl, refl)

-- [01:runner.6] "A reader over the lent bytes gives record after record.", [01:records.1] each "counting the whole record".
abbrev pub records : List Trial
records =
    -- Of exactly 4 bytes, of 6, and of 260: each ends at the end.
    record_at four 0 4 4 (four ∷ []) false ∷
    record_at six 0 6 6 (six ∷ []) false ∷
    record_at long 0 260 260 (long ∷ []) false ∷
    -- Two records and the end, from each place.
    record_at (six ++ four) 0 6 6 (six ∷ four ∷ []) false ∷
    record_at (six ++ four) 6 4 10 (four ∷ []) false ∷
    end_at (six ++ four) 10 ∷
    -- From a place within a record.
    record_at (9 ∷ 9 ∷ four) 2 4 6 (four ∷ []) false ∷
    []

pub records_tried : map found records ≡ map expected_of records
unfolding found
records_tried = refl

-- [01:runner.7] "Fewer than 4 bytes left over, a length field below 4, or one running past the end, is torn; no later record is read."
abbrev pub tears : List Trial
tears =
    -- One, two and three bytes, with and without a record before them.
    torn_at (1 ∷ []) 0 ∷
    torn_at (2 ∷ 0 ∷ []) 0 ∷
    torn_at (3 ∷ 0 ∷ 5 ∷ []) 0 ∷
    record_at (four ++ (4 ∷ [])) 0 4 4 (four ∷ []) true ∷
    record_at (four ++ (4 ∷ 0 ∷ [])) 0 4 4 (four ∷ []) true ∷
    record_at (four ++ (4 ∷ 0 ∷ 8 ∷ [])) 0 4 4 (four ∷ []) true ∷
    torn_at (four ++ (4 ∷ [])) 4 ∷
    torn_at (four ++ (4 ∷ 0 ∷ [])) 4 ∷
    torn_at (four ++ (4 ∷ 0 ∷ 8 ∷ [])) 4 ∷
    -- A length field of 0 and of 3, though a record follows.
    torn_at (0 ∷ 0 ∷ 8 ∷ 0 ∷ []) 0 ∷
    torn_at (3 ∷ 0 ∷ 8 ∷ 0 ∷ []) 0 ∷
    torn_at ((3 ∷ 0 ∷ 8 ∷ []) ++ four) 0 ∷
    -- One that runs past the end, by one byte and by its high byte.
    torn_at (5 ∷ 0 ∷ 8 ∷ 0 ∷ []) 0 ∷
    torn_at (7 ∷ 0 ∷ 5 ∷ 0 ∷ 1 ∷ 2 ∷ []) 0 ∷
    torn_at (0x04 ∷ 0x01 ∷ 8 ∷ 0 ∷ []) 0 ∷
    record_at (six ++ (5 ∷ 0 ∷ 8 ∷ 0 ∷ [])) 0 6 6 (six ∷ []) true ∷
    []

pub tears_tried : map found tears ≡ map expected_of tears
unfolding found
tears_tried = refl

-- [01:runner.8] "No bytes left is the plain end.": of none, after a record, and past the end.
abbrev pub ends : List Trial
ends = end_at [] 0 ∷ end_at [] 1 ∷ end_at four 4 ∷ end_at four 5 ∷ end_at six 6 ∷ end_at (four ++ six) 10 ∷ end_at (four ++ six) 255 ∷ []

pub ends_tried : map found ends ≡ map expected_of ends
unfolding found
ends_tried = refl
