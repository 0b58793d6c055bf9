mod InTurn
mod StrayNames
mod Looking
mod Removing
mod StraysGo
mod TidyWorks
mod SinksShown
pub mod SinksGo
mod Started
mod BookLoads
mod Lasts
mod Listings
mod FoundSources
mod ByStream
mod RaisedEnds
mod BookFacts
mod NextBook
mod Preparing
mod Planning
mod Readied
mod FoundPlan
mod KnownEnds
mod StartsAgree
mod SpentCauses
pub mod Shown
mod TakenIn
mod ListingKept
mod SinksSaved
mod RunsDone
pub mod OnceListed
pub mod Finished
mod MergeSteps
mod MergeFacts
mod MergedBook
mod RawSources
mod Holding
mod MergeOrder
mod MergedMany
pub mod Uncounted
mod NoStrays
mod Settled
mod RunKinds
pub mod WrittenStays
