mod Depth
mod StatementLines
mod Standing
