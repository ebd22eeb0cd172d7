-- What the files and the sink in memory hold, as values. They are this project's own.
use Rattle.std.specs.Prelude.{ℕ, ◌+◌, ◌-◌, ◌^◌, min, ◌==◌, nat_lt, if◌then◌else◌, List, [], ◌∷◌, ◌++◌, length, Option, Some, None, IsSomeAnd, Contains, refl}
use Rattle.std.specs.FinMap.{get, code}
use Rattle.std.specs.Coded.{Coded, code_by, coded×, coded_ℕ, coded_list, coded_option}
use Rattle.xom_io.specs.Answers.{FilesTold}
use Rattle.xom_io.specs.Names.{Named}

-- A plan of the calls that are to fail: their numbers, and the number of the next call. There is
-- none once every number below 2^64 was used, and no later call fails.
pub record Plan : Type 0 where
  pub failing : List ℕ
  pub next : Option ℕ

-- no call is to fail, and the next one is the first
abbrev pub fresh_plan : Plan
fresh_plan = record { failing = []; next = Some 1 }

-- the next call is to fail
abbrev pub Fails : Plan → Type 0
Fails plan = IsSomeAnd plan.next (Contains plan.failing)

-- one more call is to fail
abbrev pub plan_with_failure : Plan → ℕ → Plan
plan_with_failure plan call = record { failing = plan.failing ++ call ∷ []; next = plan.next }

-- the number after this one
abbrev pub call_after : Option ℕ → Option ℕ
call_after None = None
call_after (Some call) = if nat_lt call (2 ^ 64 - 1) then Some (call + 1) else None

-- the next call was made
abbrev pub plan_after_call : Plan → Plan
plan_after_call plan = record { failing = plan.failing; next = call_after plan.next }

-- The files: what names hold, the plan, and the counts of faults.
pub record KeptByFiles : Type 0 where
  pub names : Named
  pub plan : Plan
  pub reads : ℕ
  pub writes : ℕ

-- files in memory tell what each name holds
abbrev pub memory_tells : KeptByFiles → FilesTold
memory_tells files = Some (get files.names)

-- The sink: the bytes written, for how many more there is room, the plan, and the count of faults.
pub record Sunk : Type 0 where
  pub bytes : List ℕ
  pub room : ℕ
  pub plan : Plan
  pub faults : ℕ

-- How many bytes of a piece the sink takes: those for which there is room, and all of them where it
-- has to grow.
abbrev pub part_of : ℕ → List ℕ → ℕ
part_of room piece = if room == 0 then length piece else min (length piece) room

-- the plan after a put of a piece: one that is empty isn't counted
abbrev pub after_put : Plan → List ℕ → Plan
after_put plan piece = if length piece == 0 then plan else plan_after_call plan

-- how a proof tells two values of these files apart
abbrev pub kept_code : Coded KeptByFiles
kept_code =
    code_by (Named × ((List ℕ × Option ℕ) × (ℕ × ℕ)))
    (coded× (code (coded_list coded_ℕ) (coded_list coded_ℕ))
    (coded× (coded× (coded_list coded_ℕ) (coded_option coded_ℕ)) (coded× coded_ℕ coded_ℕ)))
    (λ f. (f.names, ((f.plan.failing, f.plan.next), (f.reads, f.writes))))
    (λ c. record {
      names = c.0;
      plan = record { failing = c.1.0.0; next = c.1.0.1 };
      reads =
          c.1.1.0;
      writes = c.1.1.1;
    })
    (λ _. refl)
