mod Worked
mod CutLines
mod CutReads
mod ByTimes
mod ByRecords
mod HuntedLines
