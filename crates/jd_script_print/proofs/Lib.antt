mod Decimals
mod Forests
mod Parts
mod TreeText
mod FileText
mod ProperTokens
mod Readback
