-- Document 01's sample and what comes after it, as bytes, with the lines that they are to give: code and cited of each answer.
use Rattle.std.specs.Prelude.{List, [], ◌∷◌, ℕ}

-- ---- Records, in document 01's words: "MAKE by 1 of member 2 in 0" is `MAKE 1 2 2 0`

abbrev pub MAKE : ℕ → ℕ → ℕ → ℕ → List ℕ
MAKE by place sort group = 8 ∷ 0 ∷ 1 ∷ 0 ∷ by ∷ place ∷ sort ∷ group ∷ []

abbrev pub PUT : ℕ → ℕ → ℕ → List ℕ
PUT by object group = 7 ∷ 0 ∷ 2 ∷ 0 ∷ by ∷ object ∷ group ∷ []

abbrev pub TAKE : ℕ → ℕ → ℕ → List ℕ
TAKE by object group = 7 ∷ 0 ∷ 3 ∷ 0 ∷ by ∷ object ∷ group ∷ []

abbrev pub APPOINT : ℕ → ℕ → ℕ → ℕ → ℕ → ℕ → List ℕ
APPOINT by place kind holder a b = 10 ∷ 0 ∷ 4 ∷ 0 ∷ by ∷ place ∷ kind ∷ holder ∷ a ∷ b ∷ []

abbrev pub DISMISS : ℕ → ℕ → List ℕ
DISMISS by place = 6 ∷ 0 ∷ 5 ∷ 0 ∷ by ∷ place ∷ []

abbrev pub GRANT : ℕ → ℕ → ℕ → ℕ → ℕ → List ℕ
GRANT by place u t operations = 9 ∷ 0 ∷ 6 ∷ 0 ∷ by ∷ place ∷ u ∷ t ∷ operations ∷ []

abbrev pub WITHDRAW : ℕ → ℕ → List ℕ
WITHDRAW by place = 6 ∷ 0 ∷ 7 ∷ 0 ∷ by ∷ place ∷ []

abbrev pub USE : ℕ → ℕ → ℕ → List ℕ
USE by gear operation = 7 ∷ 0 ∷ 8 ∷ 0 ∷ by ∷ gear ∷ operation ∷ []

-- Done, citing no rule; and a refusal.
abbrev pub ok : ℕ × ℕ
ok = (0, 255)

abbrev pub no : ℕ → ℕ × ℕ
no n = (n, 255)

-- [01:runner.13] The sample.
abbrev pub records : List (List ℕ)
records =
    MAKE 1 2 2 0 ∷
    MAKE 1 3 2 0 ∷
    MAKE 1 4 1 0 ∷
    MAKE 1 5 1 0 ∷
    MAKE 1 6 3 5 ∷
    MAKE 1 7 2 4 ∷
    APPOINT 1 1 2 2 0 0 ∷
    APPOINT 2 2 3 3 4 5 ∷
    GRANT 3 0 4 5 6 ∷
    USE 7 6 2 ∷
    USE 3 6 2 ∷
    PUT 2 3 4 ∷
    USE 3 6 2 ∷
    APPOINT 1 3 2 1 0 0 ∷
    TAKE 1 1 0 ∷
    WITHDRAW 1 0 ∷
    []

-- [01:runner.14] Its lines. [02:1.3] "The last sample line becomes `15 0 255`."
abbrev pub expected : List (ℕ × ℕ)
expected =
    ok ∷ ok ∷ ok ∷ ok ∷ ok ∷ ok ∷ ok ∷ ok ∷ ok ∷ (0, 0) ∷ no 9 ∷ ok ∷ (0, 0) ∷ no 10 ∷ no 12 ∷ ok ∷ []

-- [01:runner.15] "Then: .."
abbrev pub further : List (List ℕ)
further =
    APPOINT 1 3 2 7 5 0 ∷
    PUT 2 3 5 ∷
    PUT 1 3 5 ∷
    DISMISS 1 0 ∷
    MAKE 1 63 3 0 ∷
    MAKE 1 64 3 0 ∷
    APPOINT 1 31 2 3 4 0 ∷
    APPOINT 1 32 2 3 4 0 ∷
    []

abbrev pub further_expected : List (ℕ × ℕ)
further_expected = ok ∷ no 11 ∷ ok ∷ no 12 ∷ ok ∷ no 5 ∷ ok ∷ no 5 ∷ []
