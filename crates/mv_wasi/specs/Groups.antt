-- Which calls of this host ask for texts, and which are judged by what stands in memory: conditions of the code on itself.
use Rattle.mv_imports.specs.declared.function.HostFunction.{HostFunction}
use Rattle.mv_imports.specs.declared.function.HostFunction.TheVariants.{FdRead, FdWrite, FdFdstatGet, ClockTimeGet, RandomGet, PollOneoff, SockAccept, SockShutdown, ArgsSizesGet, ArgsGet, EnvironSizesGet, EnvironGet}

-- the call writes texts, or their sizes, and is answered at once
abbrev pub AsksForTexts : HostFunction → Type 0
AsksForTexts ArgsSizesGet = Unit {0}
AsksForTexts ArgsGet = Unit {0}
AsksForTexts EnvironSizesGet = Unit {0}
AsksForTexts EnvironGet = Unit {0}
AsksForTexts function = ⊥

-- the call has ranges in memory, or arguments with limits, and writes nothing before it is answered
abbrev pub IsJudged : HostFunction → Type 0
IsJudged FdRead = Unit {0}
IsJudged FdWrite = Unit {0}
IsJudged FdFdstatGet = Unit {0}
IsJudged ClockTimeGet = Unit {0}
IsJudged RandomGet = Unit {0}
IsJudged PollOneoff = Unit {0}
IsJudged SockAccept = Unit {0}
IsJudged SockShutdown = Unit {0}
IsJudged function = ⊥

-- it is one of those on a descriptor
abbrev pub IsJudgedOnDescriptor : HostFunction → Type 0
IsJudgedOnDescriptor FdRead = Unit {0}
IsJudgedOnDescriptor FdWrite = Unit {0}
IsJudgedOnDescriptor FdFdstatGet = Unit {0}
IsJudgedOnDescriptor SockAccept = Unit {0}
IsJudgedOnDescriptor SockShutdown = Unit {0}
IsJudgedOnDescriptor function = ⊥
