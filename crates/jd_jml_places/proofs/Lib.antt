mod Values
mod Expressions
mod Clauses
mod Forms
mod Apart
